-- A term that has too much that the library lacks.
use Rattle.std.specs.Prelude.{◌≡◌, ◌≢◌, ◌+◌, ◌⊎◌, List, length, Contains, All, AllPairs, Bool, true, false, if◌then◌else◌}
use Rattle.lk_store.specs.Contents.{Contents}
use Rattle.lk_spell.specs.Numbers.{IsDone}
use Rattle.lk_spell.specs.Opened.{part_of, parts_back, IsOpenedIn}
use Rattle.lk_spell.specs.Parts.{IsPartIn}
use Rattle.lk_spell.specs.declared.open.Opened.{Opened}
use Rattle.lk_spell.specs.declared.part.Part.{Part}
use Rattle.lk_spell.specs.declared.part.Part.TheVariants.{Name, Text, Level, List as Levels, Term}
use Rattle.lk_spell.specs.declared.spelled.SpellError.{SpellError}
use Rattle.lk_spell.specs.declared.spelled.SpellError.TheVariants.{TooWide, NoMemory}
use Rattle.lk_spell.specs.declared.speller.Speller.{Speller}

-- terms and levels are counted
abbrev pub counts : Part → Bool
counts (Name n) = false
counts (Text s) = false
counts (Level l) = true
counts (Levels ls) = false
counts (Term e) = true

-- the whole is made of the part: it is the whole, or it stands in the node of a part of it
pub data IsPartOf (c : Contents) (whole : Part) : Part → Type 0 where
  itself : IsPartOf c whole whole
  inside : (o : Opened) (p : Part) → IsPartOf c whole (part_of o) → IsOpenedIn c o
      → Contains (parts_back o) p → IsPartOf c whole p

-- a part of the whole, of a term or a level, that the contents b of the library lack
pub record IsOwnPart (b c : Contents) (whole p : Part) : Type 0 where
  pub of : IsPartOf c whole p
  pub counted : counts p ≡ true
  pub own : IsPartIn b p → ⊥

-- 4,097 different ones
pub record IsWide (b c : Contents) (whole : Part) : Type 0 where
  pub parts : List Part
  pub many : length parts ≡ 4097
  pub each : All (IsOwnPart b c whole) parts
  pub apart : AllPairs (λ p q. p ≢ q) parts

abbrev pub IfTooWide : SpellError → Type 0 → Type 0
IfTooWide TooWide p = p
IfTooWide NoMemory p = Unit {0}

-- those that were spelled are as many as were counted
pub record IsCounting (b c : Contents) (whole : Part) (s : Speller) : Type 0 where
  pub base : (p : Part) → IsPartIn b p → IsDone s.numbers p
  pub parts : List Part
  pub many : length parts ≡ s.counted
  pub each : All (IsOwnPart b c whole) parts
  pub apart : AllPairs (λ p q. p ≢ q) parts
  pub done : All (IsDone s.numbers) parts

-- a part that had no number was counted, or there is nothing new
abbrev pub IsCounted : Part → Speller → Speller → Type 0
IsCounted p old new = (new ≡ old)
    ⊎ ((IsDone old.numbers p → ⊥) × (new.counted ≡ old.counted + (if counts p then 1 else 0)))

-- a part is one too many
pub record IsOneMore (p : Part) (s : Speller) : Type 0 where
  pub counted : counts p ≡ true
  pub new : IsDone s.numbers p → ⊥
  pub full : s.counted ≡ 4096
