-- What eta keeps: over other things, and with known numbers.
use Rattle.std.specs.Prelude.{ℕ, ◌<◌, map, All}
use Rattle.lk_ask.specs.declared.sheet.Sheet.{Sheet}
use Rattle.lk_ask.specs.Sheets.{map_sheet, map_pair, IsKnownSheet, IsKnownPair}
use Rattle.lk_eta.specs.declared.sheet.FunctionSheet.{FunctionSheet}
use Rattle.lk_eta.specs.declared.sheet.FunctionSheet.TheVariants.{First, FirstForm, Second, SecondForm}
use Rattle.lk_eta.specs.declared.sheet.StructureTermSheet.{StructureTermSheet}
use Rattle.lk_eta.specs.declared.sheet.StructureTermSheet.TheVariants as terms
use Rattle.lk_eta.specs.declared.sheet.StructureTruthSheet.{StructureTruthSheet}
use Rattle.lk_eta.specs.declared.sheet.StructureTruthSheet.TheVariants as truths
use Rattle.lk_eta.specs.declared.sheet.UnitSheet.{UnitSheet}
use Rattle.lk_eta.specs.declared.sheet.UnitSheet.TheVariants as unit
use Rattle.lk_eta.specs.declared.sheet.EtaTermSheet.{EtaTermSheet}
use Rattle.lk_eta.specs.declared.sheet.EtaTermSheet.TheVariants as term
use Rattle.lk_eta.specs.declared.sheet.EtaTruthSheet.{EtaTruthSheet}
use Rattle.lk_eta.specs.declared.sheet.EtaTruthSheet.TheVariants as truth

abbrev pub StructureSheet : Type 0 → Type 0
StructureSheet X = Sheet (StructureTermSheet X) (StructureTruthSheet X)

abbrev pub EtaSheet : Type 0 → Type 0
EtaSheet X = Sheet (EtaTermSheet X) (EtaTruthSheet X)

abbrev pub map_function : {X Y : Type 0} → (X → Y) → FunctionSheet X → FunctionSheet Y
map_function f (First a b) = First (f a) (f b)
map_function f (FirstForm a b) = FirstForm (f a) (f b)
map_function f (Second a b) = Second (f a) (f b)
map_function f (SecondForm a b) = SecondForm (f a) (f b)

abbrev pub map_structure_term : {X Y : Type 0} → (X → Y) → StructureTermSheet X → StructureTermSheet Y
map_structure_term f (terms.Left a b) = terms.Left (f a) (f b)
map_structure_term f (terms.Right a b A) = terms.Right (f a) (f b) (f A)

abbrev pub map_structure_truth : {X Y : Type 0} → (X → Y) → StructureTruthSheet X → StructureTruthSheet Y
map_structure_truth f (truths.Types a b) = truths.Types (f a) (f b)
map_structure_truth f (truths.Fields a b ps) = truths.Fields (f a) (f b) (map (map_pair f) ps)

abbrev pub map_structure_sheet : {X Y : Type 0} → (X → Y) → StructureSheet X → StructureSheet Y
map_structure_sheet f = map_sheet (map_structure_term f) (map_structure_truth f)

abbrev pub map_unit : {X Y : Type 0} → (X → Y) → UnitSheet X → UnitSheet Y
map_unit f (unit.Left a b) = unit.Left (f a) (f b)
map_unit f (unit.LeftForm a b A) = unit.LeftForm (f a) (f b) (f A)
map_unit f (unit.Right a b A) = unit.Right (f a) (f b) (f A)

abbrev pub map_eta_term : {X Y : Type 0} → (X → Y) → EtaTermSheet X → EtaTermSheet Y
map_eta_term f (term.Function s) = term.Function (map_function f s)
map_eta_term f (term.Structure way s) = term.Structure way (map_structure_term f s)
map_eta_term f (term.Unit s) = term.Unit (map_unit f s)

abbrev pub map_eta_truth : {X Y : Type 0} → (X → Y) → EtaTruthSheet X → EtaTruthSheet Y
map_eta_truth f (truth.Long a b) = truth.Long (f a) (f b)
map_eta_truth f (truth.Structure way s) = truth.Structure way (map_structure_truth f s)
map_eta_truth f truth.Passed = truth.Passed

abbrev pub map_eta_sheet : {X Y : Type 0} → (X → Y) → EtaSheet X → EtaSheet Y
map_eta_sheet f = map_sheet (map_eta_term f) (map_eta_truth f)

-- its numbers are below n
abbrev pub IsKnownFunction : ℕ → FunctionSheet ℕ → Type 0
IsKnownFunction n (First a b) = (a < n) × (b < n)
IsKnownFunction n (FirstForm a b) = (a < n) × (b < n)
IsKnownFunction n (Second a b) = (a < n) × (b < n)
IsKnownFunction n (SecondForm a b) = (a < n) × (b < n)

-- its numbers are below n
abbrev pub IsKnownStructureTerm : ℕ → StructureTermSheet ℕ → Type 0
IsKnownStructureTerm n (terms.Left a b) = (a < n) × (b < n)
IsKnownStructureTerm n (terms.Right a b A) = (a < n) × (b < n) × (A < n)

-- its numbers are below n
abbrev pub IsKnownStructureTruth : ℕ → StructureTruthSheet ℕ → Type 0
IsKnownStructureTruth n (truths.Types a b) = (a < n) × (b < n)
IsKnownStructureTruth n (truths.Fields a b ps) = (a < n) × (b < n) × All (IsKnownPair n) ps

-- its numbers are below n
abbrev pub IsKnownStructureSheet : ℕ → StructureSheet ℕ → Type 0
IsKnownStructureSheet = IsKnownSheet IsKnownStructureTerm IsKnownStructureTruth

-- its numbers are below n
abbrev pub IsKnownUnit : ℕ → UnitSheet ℕ → Type 0
IsKnownUnit n (unit.Left a b) = (a < n) × (b < n)
IsKnownUnit n (unit.LeftForm a b A) = (a < n) × (b < n) × (A < n)
IsKnownUnit n (unit.Right a b A) = (a < n) × (b < n) × (A < n)

-- its numbers are below n
abbrev pub IsKnownEtaTerm : ℕ → EtaTermSheet ℕ → Type 0
IsKnownEtaTerm n (term.Function s) = IsKnownFunction n s
IsKnownEtaTerm n (term.Structure way s) = IsKnownStructureTerm n s
IsKnownEtaTerm n (term.Unit s) = IsKnownUnit n s

-- its numbers are below n
abbrev pub IsKnownEtaTruth : ℕ → EtaTruthSheet ℕ → Type 0
IsKnownEtaTruth n (truth.Long a b) = (a < n) × (b < n)
IsKnownEtaTruth n (truth.Structure way s) = IsKnownStructureTruth n s
IsKnownEtaTruth n truth.Passed = Unit {0}

-- its numbers are below n
abbrev pub IsKnownEtaSheet : ℕ → EtaSheet ℕ → Type 0
IsKnownEtaSheet = IsKnownSheet IsKnownEtaTerm IsKnownEtaTruth
