-- What it is for a declaration that is a unit of its own to be derived.
use Rattle.lk_tree.specs.Tree.{Level, zero_level, Tree}
use Rattle.lk_tree.specs.Level.{SameLevel}
use Rattle.lk_tree.specs.WellFormed.{IsWellFormed}
use Rattle.std.specs.Prelude.{◌≡◌, true}
use Rattle.lk_tree.specs.Operations.{Op}
use Rattle.lk_rulebook.specs.Place.{Place, a_def, Hint}
use Rattle.lk_rulebook.specs.Names.{op_name}
use Rattle.lk_rulebook.specs.NumberLaws.{has_laws}
use Rattle.lk_rulebook.specs.Shapes.{HasNat}
use Rattle.lk_rulebook.specs.Units.{Body, as_axiom, as_def, as_thm, as_opaque, as_quot, Decl}
use Rattle.lk_rulebook.specs.Rules.{HasType, HasSort, IsDefEq, MeetsLaws}
use Rattle.lk_rulebook.specs.Quotients.{IsQuotient}

-- its trees are closed and well scoped
abbrev pub BodyWellFormed : Body → Type 0
BodyWellFormed as_axiom = Unit {0}
BodyWellFormed (as_def h value) = IsWellFormed value
BodyWellFormed (as_thm value) = IsWellFormed value
BodyWellFormed (as_opaque value) = IsWellFormed value
BodyWellFormed as_quot = Unit {0}

abbrev pub DeclWellFormed : Decl → Type 0
DeclWellFormed d = IsWellFormed d.type × BodyWellFormed d.body

-- the value has a type that equals the stated one
pub record IsOf (w : Place) (value type : Tree) : Type 0 where
  pub inferred : Tree
  pub types : HasType w value inferred
  pub equals : IsDefEq w inferred type

-- where a def with this value is named as an operation that has laws: they hold of it
abbrev pub IsLawful : Place → Decl → Hint → Tree → Type 0
IsLawful w d h value = (op : Op) → op_name op ≡ d.name → has_laws op ≡ true →
    HasNat w × MeetsLaws w op (record { levels = d.levels; type = d.type; kind = a_def h value })

-- what is derived of the body, where the type has the sort l
abbrev pub BodyDerived : Place → Decl → Level → Body → Type 0
BodyDerived w d l as_axiom = Unit {0}
BodyDerived w d l (as_def h value) = IsOf w value d.type × IsLawful w d h value
BodyDerived w d l (as_thm value) = IsOf w value d.type × SameLevel l zero_level
BodyDerived w d l (as_opaque value) = IsOf w value d.type
BodyDerived w d l as_quot = IsQuotient w d.name d.levels d.type

-- the declaration is derived at its place: its type has a sort, and its body is derived
pub record DeclDerived (w : Place) (d : Decl) : Type 0 where
  pub level : Level
  pub sorted : HasSort w d.type level
  pub body : BodyDerived w d level d.body
