-- What it is for a claim to be written: lines after any others that hold, one of which states it,
-- where it is not of one tree. Nothing is said of the place: a line of an operation on numbers does
-- not ask for its laws.
use Rattle.std.specs.Prelude.{ℕ, ◌≡◌, ◌⊎◌, true, nat_eq, length, List, [], ◌∷◌, Option, Some, None}
use Rattle.std.specs.Prelude.{slice_get}
use Rattle.lk_rulebook.specs.Place.{Place, Entry}
use Rattle.lk_rulebook.specs.Names.{nat_zero}
use Rattle.lk_rulebook.specs.Shapes.{HasNat}
use Rattle.lk_rulebook.specs.Rules.{HasValue}
use Rattle.lk_tree.specs.Tree.{Name, Level, Tree, sort}
use Rattle.lk_tree.specs.Operations.{Op}
use Rattle.lk_rulebook.specs.NumberLaws.{Law, laws_of, stated_by}
use Rattle.lk_tree.specs.Level.{is_zero_level}
use Rattle.lk_rulebook.specs.Units.{Body, as_axiom, as_def, as_thm, as_opaque, as_quot, Decl}
use Rattle.lk_questions.specs.Shapes.{nat_shape}
use Rattle.lk_questions.specs.QuotientUnits.{quot_steps}
use Rattle.lk_questions.specs.NumberLaws.{lawful_op, def_given, held_given}
use Rattle.lk_questions.specs.Tests.{found}
use Rattle.lk_rulebook.specs.Claims.{Claim, types, reduces, equals, IsShaped}
use Rattle.lk_written.specs.Line.{Line}
use Rattle.lk_written.specs.Section.{claims_by}

-- what is stated stays under its number
abbrev pub Keeps : List Claim → List Claim → Type 0
Keeps ps qs = (i : ℕ) (c : Claim) → slice_get ps i ≡ Some c → slice_get qs i ≡ Some c

-- line number j states c, or c says of one tree that it reduces to itself, or equals itself
abbrev pub Stands : List Claim → ℕ → Claim → Type 0
Stands ps j (types e T) = slice_get ps j ≡ Some (types e T)
Stands ps j (reduces a b) = (a ≡ b) ⊎ (slice_get ps j ≡ Some (reduces a b))
Stands ps j (equals a b) = (a ≡ b) ⊎ (slice_get ps j ≡ Some (equals a b))

-- lines that hold after ps, by which c stands
pub record IsWritten (w : Place) (ps : List Claim) (c : Claim) : Type 0 where
  pub lines : List Line
  pub claims : List Claim
  pub holds : claims_by w ps lines ≡ Some claims
  pub keeps : Keeps ps claims
  pub place : ℕ
  pub stands : Stands claims place c

-- c can be written after any lines
pub record CanWrite (w : Place) (c : Claim) : Type 0 where
  pub shaped : IsShaped c
  pub written : (ps : List Claim) → IsWritten w ps c

-- a place at which Nat.zero has no value, where Nat has its shape: there a numeral reduces to itself
-- alone, so that a reduction that an operation on numbers names is not one of an argument that is a
-- numeral already
abbrev pub KeepsNumerals : Place → Type 0
KeepsNumerals w =
    HasNat w → (g : Entry) (v : Tree) → w.means nat_zero ≡ Some g → HasValue g v → ⊥

-- sort A = l, in two claims
pub record CanSort (w : Place) (A : Tree) (l : Level) : Type 0 where
  pub between : Tree
  pub typed : CanWrite w (types A between)
  pub reduced : CanWrite w (reduces between (sort l))

-- value => V, V == type, in two claims
pub record CanBe (w : Place) (value type : Tree) : Type 0 where
  pub inferred : Tree
  pub typed : CanWrite w (types value inferred)
  pub equal : CanWrite w (equals inferred type)

-- left == right for each law
abbrev pub CanMeet : Place → List Law → Type 0
CanMeet w [] = Unit {0}
CanMeet w (law ∷ laws) =
    ((found w (held_given law.holds) ≡ Some tt) × CanWrite w (equals law.left law.right))
    × CanMeet w laws

-- the laws of the operation that a def with these level parameters and this value is named as
abbrev pub CanBeLawful : Place → Option Op → List Name → Tree → Type 0
CanBeLawful w None ls value = Unit {0}
CanBeLawful w (Some op) ls value =
    (found w nat_shape ≡ Some tt) × (nat_eq (length ls) 0 ≡ true)
    × (found w (def_given (stated_by op)) ≡ Some tt) × CanMeet w (laws_of op value)

-- what the body of a declaration rests on can be written; a test is its own
abbrev pub CanBody : Place → Decl → Level → Body → Type 0
CanBody w d l as_axiom = Unit {0}
CanBody w d l (as_def h value) =
    CanBe w value d.type × CanBeLawful w (lawful_op d.name) d.levels value
CanBody w d l (as_thm value) = CanBe w value d.type × (is_zero_level l ≡ true)
CanBody w d l (as_opaque value) = CanBe w value d.type
CanBody w d l as_quot = found w (quot_steps d.name d.levels d.type) ≡ Some tt

pub record CanDeclare (w : Place) (d : Decl) : Type 0 where
  pub level : Level
  pub sorted : CanSort w d.type level
  pub body : CanBody w d level d.body
