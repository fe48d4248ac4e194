-- What Infer keeps: over other things, and with known numbers.
use Rattle.std.specs.Prelude.{ℕ, ◌<◌}
use Rattle.lk_ask.specs.declared.sheet.Sheet.{Sheet}
use Rattle.lk_ask.specs.Sheets.{map_sheet, IsKnownSheet}
use Rattle.lk_type.specs.declared.sheet.TypeTermSheet.{TypeTermSheet}
use Rattle.lk_type.specs.declared.sheet.TypeTermSheet.TheVariants.{Passed, LamDomain, LamDomainSort}
use Rattle.lk_type.specs.declared.sheet.TypeTermSheet.TheVariants.{LamBody, PiDomain, PiDomainSort}
use Rattle.lk_type.specs.declared.sheet.TypeTermSheet.TheVariants.{PiBody, PiBodySort, Function}
use Rattle.lk_type.specs.declared.sheet.TypeTermSheet.TheVariants.{FunctionForm, Argument, LetType}
use Rattle.lk_type.specs.declared.sheet.TypeTermSheet.TheVariants.{LetTypeSort, LetValue}
use Rattle.lk_type.specs.declared.sheet.TypeTermSheet.TheVariants.{TelescopeLocal, TelescopeDomain}
use Rattle.lk_type.specs.declared.sheet.TypeTermSheet.TheVariants.{TelescopeSort, TelescopeBody, PisSort}
use Rattle.lk_type.specs.declared.sheet.Telescope.{Telescope}
use Rattle.lk_type.specs.declared.sheet.TypeTruthSheet.{TypeTruthSheet}
use Rattle.lk_type.specs.declared.sheet.TypeTruthSheet.TheVariants.{ArgumentSame, LetValueSame}

abbrev pub TypeSheet : Type 0 → Type 0
TypeSheet X = Sheet (TypeTermSheet X) (TypeTruthSheet X)

abbrev pub map_telescope : {X Y : Type 0} → (X → Y) → Telescope X → Telescope Y
map_telescope f s = record {
  binders = s.binders;
  count = s.count;
  opened = f s.opened;
  gathered = f s.gathered;
}

abbrev pub map_type_term : {X Y : Type 0} → (X → Y) → TypeTermSheet X → TypeTermSheet Y
map_type_term f Passed = Passed
map_type_term f (LamDomain d b) = LamDomain (f d) (f b)
map_type_term f (LamDomainSort d b) = LamDomainSort (f d) (f b)
map_type_term f (LamBody d k) = LamBody (f d) k
map_type_term f (PiDomain d b) = PiDomain (f d) (f b)
map_type_term f (PiDomainSort d b) = PiDomainSort (f d) (f b)
map_type_term f (PiBody s) = PiBody (f s)
map_type_term f (PiBodySort s) = PiBodySort (f s)
map_type_term f (TelescopeLocal s) = TelescopeLocal (map_telescope f s)
map_type_term f (TelescopeDomain s) = TelescopeDomain (map_telescope f s)
map_type_term f (TelescopeSort s) = TelescopeSort (map_telescope f s)
map_type_term f (TelescopeBody b us) = TelescopeBody b (f us)
map_type_term f (PisSort us s) = PisSort (f us) (f s)
map_type_term f (Function a) = Function (f a)
map_type_term f (FunctionForm a) = FunctionForm (f a)
map_type_term f (Argument d b a) = Argument (f d) (f b) (f a)
map_type_term f (LetType t v b) = LetType (f t) (f v) (f b)
map_type_term f (LetTypeSort t v b) = LetTypeSort (f t) (f v) (f b)
map_type_term f (LetValue t v b) = LetValue (f t) (f v) (f b)

abbrev pub map_type_truth : {X Y : Type 0} → (X → Y) → TypeTruthSheet X → TypeTruthSheet Y
map_type_truth f (ArgumentSame b a) = ArgumentSame (f b) (f a)
map_type_truth f (LetValueSame v b) = LetValueSame (f v) (f b)

abbrev pub map_type_sheet : {X Y : Type 0} → (X → Y) → TypeSheet X → TypeSheet Y
map_type_sheet f = map_sheet (map_type_term f) (map_type_truth f)

-- its numbers are below n
abbrev pub IsKnownTelescope : ℕ → Telescope ℕ → Type 0
IsKnownTelescope n s = (s.opened < n) × (s.gathered < n)

-- its numbers are below n
abbrev pub IsKnownTypeTerm : ℕ → TypeTermSheet ℕ → Type 0
IsKnownTypeTerm n Passed = Unit {0}
IsKnownTypeTerm n (LamDomain d b) = (d < n) × (b < n)
IsKnownTypeTerm n (LamDomainSort d b) = (d < n) × (b < n)
IsKnownTypeTerm n (LamBody d k) = d < n
IsKnownTypeTerm n (PiDomain d b) = (d < n) × (b < n)
IsKnownTypeTerm n (PiDomainSort d b) = (d < n) × (b < n)
IsKnownTypeTerm n (PiBody s) = s < n
IsKnownTypeTerm n (PiBodySort s) = s < n
IsKnownTypeTerm n (TelescopeLocal s) = IsKnownTelescope n s
IsKnownTypeTerm n (TelescopeDomain s) = IsKnownTelescope n s
IsKnownTypeTerm n (TelescopeSort s) = IsKnownTelescope n s
IsKnownTypeTerm n (TelescopeBody b us) = us < n
IsKnownTypeTerm n (PisSort us s) = (us < n) × (s < n)
IsKnownTypeTerm n (Function a) = a < n
IsKnownTypeTerm n (FunctionForm a) = a < n
IsKnownTypeTerm n (Argument d b a) = (d < n) × (b < n) × (a < n)
IsKnownTypeTerm n (LetType t v b) = (t < n) × (v < n) × (b < n)
IsKnownTypeTerm n (LetTypeSort t v b) = (t < n) × (v < n) × (b < n)
IsKnownTypeTerm n (LetValue t v b) = (t < n) × (v < n) × (b < n)

-- its numbers are below n
abbrev pub IsKnownTypeTruth : ℕ → TypeTruthSheet ℕ → Type 0
IsKnownTypeTruth n (ArgumentSame b a) = (b < n) × (a < n)
IsKnownTypeTruth n (LetValueSame v b) = (v < n) × (b < n)

-- its numbers are below n
abbrev pub IsKnownTypeSheet : ℕ → TypeSheet ℕ → Type 0
IsKnownTypeSheet = IsKnownSheet IsKnownTypeTerm IsKnownTypeTruth
