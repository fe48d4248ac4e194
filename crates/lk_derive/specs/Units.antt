-- The parts of a declaration that is answered yes: what its questions are answered, and what that
-- claims, in the order in which the last line of its section names it.
use Rattle.std.specs.Prelude.{ℕ, ◌≡◌, ◌≤◌, true, nat_eq, List, [], ◌∷◌, length, Option, Some, None}
use Rattle.lk_tree.specs.Tree.{Name, Level, Tree, sort}
use Rattle.lk_tree.specs.Level.{is_zero_level}
use Rattle.lk_tree.specs.Operations.{Op}
use Rattle.lk_rulebook.specs.Place.{Place}
use Rattle.lk_rulebook.specs.Derived.{DeclWellFormed}
use Rattle.lk_rulebook.specs.WellStated.{WellStated}
use Rattle.lk_rulebook.specs.Units.{Body, as_axiom, as_def, as_thm, as_opaque, as_quot, Decl}
use Rattle.lk_rulebook.specs.NumberLaws.{Law, laws_of, stated_by}
use Rattle.lk_rulebook.specs.Claims.{Claim, types, reduces, equals}
use Rattle.lk_questions.specs.Query.{Query, AnswerTo, whnf, infer, same}
use Rattle.lk_questions.specs.Shapes.{nat_shape}
use Rattle.lk_questions.specs.QuotientUnits.{quot_steps}
use Rattle.lk_questions.specs.NumberLaws.{lawful_op, def_given, held_given}
use Rattle.lk_questions.specs.Tests.{passes, found}
use Rattle.lk_written.specs.Section.{section_test}
use Rattle.lk_store.specs.Contents.{Contents}
use Rattle.lk_trace.specs.declared.sections.Section.{Section}
use Rattle.lk_trace.specs.Meaning.{section_of, IsSectionIn}
use Rattle.lk_step.specs.Rows.{IsAnswered}

-- the question is answered v, at no more than this cost
pub record IsAnsweredAs (w : Place) (q : Query) (v : AnswerTo q) (most : ℕ) : Type 0 where
  pub cost : ℕ
  pub answered : IsAnswered w q v cost
  pub within : cost ≤ most

-- sort A = l
pub record HasSort (w : Place) (most : ℕ) (A : Tree) (l : Level) : Type 0 where
  pub between : Tree
  pub typed : IsAnsweredAs w (infer A) between most
  pub reduced : IsAnsweredAs w (whnf between) (sort l) most

-- value => V, V == type
pub record HasType (w : Place) (most : ℕ) (value type : Tree) : Type 0 where
  pub inferred : Tree
  pub typed : IsAnsweredAs w (infer value) inferred most
  pub equal : IsAnsweredAs w (same inferred type) true most

-- left == right for each law
abbrev pub AreMet : Place → ℕ → List Law → Type 0
AreMet w most [] = Unit {0}
AreMet w most (law ∷ laws) =
    ((found w (held_given law.holds) ≡ Some tt)
    × IsAnsweredAs w (same law.left law.right) true most) × AreMet w most laws

-- the laws of the operation that a def with these level parameters and this value is named as
abbrev pub IsLawful : Place → ℕ → Option Op → List Name → Tree → Type 0
IsLawful w most None ls value = Unit {0}
IsLawful w most (Some op) ls value =
    (found w nat_shape ≡ Some tt) × (nat_eq (length ls) 0 ≡ true)
    × (found w (def_given (stated_by op)) ≡ Some tt) × AreMet w most (laws_of op value)

-- what is due of a declaration by its kind, whose type is of the sort of this level
abbrev pub HasBody : Place → ℕ → Decl → Level → Body → Type 0
HasBody w most d l as_axiom = Unit {0}
HasBody w most d l (as_def h value) =
    HasType w most value d.type × IsLawful w most (lawful_op d.name) d.levels value
HasBody w most d l (as_thm value) = HasType w most value d.type × (is_zero_level l ≡ true)
HasBody w most d l (as_opaque value) = HasType w most value d.type
HasBody w most d l as_quot = found w (quot_steps d.name d.levels d.type) ≡ Some tt

-- its questions are answered yes, none of them at a greater cost than this
pub record HasParts (w : Place) (most : ℕ) (d : Decl) : Type 0 where
  pub level : Level
  pub sorted : HasSort w most d.type level
  pub body : HasBody w most d level d.body

abbrev pub sort_parts : Tree → Tree → Level → List Claim → List Claim
sort_parts A S l more = types A S ∷ reduces S (sort l) ∷ more

abbrev pub value_parts : Tree → Tree → Tree → List Claim → List Claim
value_parts value V type more = types value V ∷ equals V type ∷ more

abbrev pub law_parts : List Law → List Claim
law_parts [] = []
law_parts (law ∷ laws) = equals law.left law.right ∷ law_parts laws

abbrev pub lawful_parts : Option Op → Tree → List Claim
lawful_parts None value = []
lawful_parts (Some op) value = law_parts (laws_of op value)

abbrev pub body_parts : (w : Place) (most : ℕ) (d : Decl) (l : Level) (b : Body) →
    HasBody w most d l b → List Claim
body_parts w most d l as_axiom h = []
body_parts w most d l (as_def i value) h =
    value_parts value h.0.inferred d.type (lawful_parts (lawful_op d.name) value)
body_parts w most d l (as_thm value) h = value_parts value h.0.inferred d.type []
body_parts w most d l (as_opaque value) h = value_parts value h.inferred d.type []
body_parts w most d l as_quot h = []

-- what the last line of its section names
abbrev pub parts_of : (w : Place) (most : ℕ) (d : Decl) → HasParts w most d → List Claim
parts_of w most d h =
    sort_parts d.type h.sorted.between h.level (body_parts w most d h.level d.body h.body)

-- its trees are closed and well scoped, as all that is given at w
pub record IsYes (w : Place) (most : ℕ) (d : Decl) : Type 0 where
  pub stated : WellStated w
  pub fine : DeclWellFormed d
  pub parts : HasParts w most d

-- it is the unit's, its lines hold, and its last line names the parts of the declaration
pub record IsUnitSection (w : Place) (c : Contents) (number : ℕ) (d : Decl) (s : Section)
    : Type 0 where
  pub of : s.unit ≡ number
  pub section_in : IsSectionIn c s
  pub passes : passes (section_test w d (section_of c s)) ≡ true
