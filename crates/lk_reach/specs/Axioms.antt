-- The axioms of a unit, and lists of unit numbers that are just those with a property.
use Rattle.std.specs.Prelude.{ℕ, ◌≡◌, Bool, true, false, List, slice_get, Some}
use Rattle.std.specs.List.{Contains}
use Rattle.std.specs.List.Sorted.{IsStrictlyIncreasing}
use Rattle.lk_rulebook.specs.Units.{Body, as_axiom, LibraryUnit, of_decl, of_block, Library}
use Rattle.lk_reach.specs.Reach.{Reaches}

abbrev pub is_axiom_body : Body → Bool
is_axiom_body as_axiom = true
is_axiom_body _ = false

-- constants of quotient types are none
abbrev pub is_axiom : LibraryUnit → Bool
is_axiom (of_decl d) = is_axiom_body d.body
is_axiom (of_block b rs) = false

-- unit k is an axiom
pub record IsAxiomUnit (us : Library) (k : ℕ) : Type 0 where
  pub unit : LibraryUnit
  pub stands : slice_get us k ≡ Some unit
  pub is_one : is_axiom unit ≡ true

-- unit k is an axiom that unit n reaches, whatever their verdicts; an axiom reaches itself
pub record IsAxiomOf (us : Library) (n k : ℕ) : Type 0 where
  pub axiom_unit : IsAxiomUnit us k
  pub reached : Reaches us n k

-- the numbers with the property, each once, rising
pub record IsListOf (P : ℕ → Type 0) (ks : List ℕ) : Type 0 where
  pub rising : IsStrictlyIncreasing ks
  pub each : (k : ℕ) → Contains ks k → P k
  pub all : (k : ℕ) → P k → Contains ks k

-- the axioms of unit n, in the order of the units
abbrev pub IsAxiomList : Library → ℕ → List ℕ → Type 0
IsAxiomList us n ks = IsListOf (IsAxiomOf us n) ks
