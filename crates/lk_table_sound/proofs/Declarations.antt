-- What the questions of a declaration that is answered yes have come to.
use Rattle.std.proofs.Common.{ℕ, ◌≡◌, true, Some}
use Rattle.lk_tree.specs.Tree.{Level, Tree}
use Rattle.lk_tree.specs.Level.{is_zero_level}
use Rattle.lk_tree.specs.WellFormed.{IsWellFormed}
use Rattle.lk_tree.specs.declared.rule.Rule.TheVariants.{ValueType}
use Rattle.lk_rulebook.specs.Units.{Body, as_axiom, as_def, as_thm, as_opaque, as_quot, Decl}
use Rattle.lk_rulebook.specs.Derived.{BodyWellFormed, DeclWellFormed}
use Rattle.lk_questions.specs.Program.{done, Table}
use Rattle.lk_questions.specs.Answer.{IfAnswered, outcome_of, plain_answer}
use Rattle.lk_questions.specs.Steps.{sort_of}
use Rattle.lk_questions.specs.Declarations.{checked, value_steps, body_steps, unit_steps}
use Rattle.lk_questions.specs.QuotientUnits.{quot_steps}
use Rattle.lk_claims.proofs.Pieces.{of_yes}
use Rattle.lk_questions.specs.Tests.{found}
use Rattle.lk_table_sound.proofs.Book.{Book, HasType, HasSort, IsDefEq, well_formed_of_type, IsSound, WellStated, IsSoundTable}
use Rattle.lk_table_sound.proofs.Soundness.{sound_bind, sound_map, sound_run}
use Rattle.lk_table_sound.proofs.Pieces.{sound_given, sound_sort_of}
use Rattle.lk_table_sound.proofs.Goes.{sound_if}
use Rattle.lk_table_sound.proofs.Shaped.{sound_quot_steps}
use Rattle.lk_table_sound.proofs.WholeTable.{ans_sound}
use Rattle.lk_questions.specs.NumberLaws.{lawful_op, law_steps}
use Rattle.lk_table_sound.proofs.NumberLaws.{AreMet, sound_law_steps}

-- the value has a type that equals the stated one
pub record IsOf (w : Book) (value type : Tree) : Type 0 where
  pub inferred : Tree
  pub types : HasType w value inferred
  pub equals : IsDefEq w inferred type

-- what holds of the body, where the type has the sort l
abbrev pub BodyHolds : Book → Decl → Level → Body → Type 0
BodyHolds w d l as_axiom = Unit {0}
BodyHolds w d l (as_def h value) = IsOf w value d.type × AreMet w (lawful_op d.name) d.levels value
BodyHolds w d l (as_thm value) = IsOf w value d.type × (is_zero_level l ≡ true)
BodyHolds w d l (as_opaque value) = IsOf w value d.type
BodyHolds w d l as_quot = found w.place (quot_steps d.name d.levels d.type) ≡ Some tt

pub record DeclHolds (w : Book) (d : Decl) : Type 0 where
  pub level : Level
  pub sorted : HasSort w d.type level
  pub body : BodyHolds w d level d.body

sound_value : (w : Book) (type value : Tree) (P : Type 0) → IsWellFormed type → IsWellFormed value → (IsOf w value type → P) → IsSound w (value_steps type value) (λ y. P)
sound_value w type value P ft fv h =
    (fv, λ V mV. (((well_formed_of_type mV.0).1, ft), λ equal mE. sound_given w equal ValueType (done checked) (λ y. P) (λ t. h (record { inferred = V; types = mV.0; equals = of_yes equal t mE }))))

sound_body : (w : Book) (d : Decl) (b : Body) → IsWellFormed d.type → BodyWellFormed b → IsSound w (body_steps d b) (λ y. (l : Level) × HasSort w d.type l × BodyHolds w d l b)
sound_body w d as_axiom f g =
    sound_bind w (sort_of d.type) (λ l. done checked) (λ l. HasSort w d.type l) (λ y. (l : Level) × HasSort w d.type l × BodyHolds w d l as_axiom) (sound_sort_of w d.type f) (λ l h. (l, h, tt))
sound_body w d (as_def i value) f g =
    sound_bind w (sort_of d.type) _ (λ l. HasSort w d.type l) (λ y. (l : Level) × HasSort w d.type l × BodyHolds w d l (as_def i value)) (sound_sort_of w d.type f)
    (λ l h. sound_bind w (value_steps d.type value) _ (λ y. IsOf w value d.type) (λ y. (l : Level) × HasSort w d.type l × BodyHolds w d l (as_def i value))
    (sound_value w d.type value (IsOf w value d.type) f g (λ v. v))
    (λ y v. sound_bind w (law_steps (lawful_op d.name) d.levels value) (λ u. done checked) _ (λ y. (l : Level) × HasSort w d.type l × BodyHolds w d l (as_def i value))
    (sound_law_steps w d.levels value g (lawful_op d.name))
    (λ u laws. (l, h, (v, laws)))))
sound_body w d (as_opaque value) f g =
    sound_bind w (sort_of d.type) (λ l. value_steps d.type value) (λ l. HasSort w d.type l) (λ y. (l : Level) × HasSort w d.type l × BodyHolds w d l (as_opaque value)) (sound_sort_of w d.type f)
    (λ l h. sound_value w d.type value ((l : Level) × HasSort w d.type l × IsOf w value d.type) f g (λ v. (l, h, v)))
sound_body w d as_quot f g =
    sound_bind w (quot_steps d.name d.levels d.type) _ (λ u. found w.place (quot_steps d.name d.levels d.type) ≡ Some tt) (λ y. (l : Level) × HasSort w d.type l × BodyHolds w d l as_quot) (sound_quot_steps w d.name d.levels d.type)
    (λ u q. sound_bind w (sort_of d.type) (λ l. done checked) (λ l. HasSort w d.type l) (λ y. (l : Level) × HasSort w d.type l × BodyHolds w d l as_quot) (sound_sort_of w d.type f)
    (λ l h. (l, h, q)))
sound_body w d (as_thm value) f g =
    sound_bind w (sort_of d.type) _ (λ l. HasSort w d.type l) (λ y. (l : Level) × HasSort w d.type l × BodyHolds w d l (as_thm value)) (sound_sort_of w d.type f)
    (λ l h. sound_if w (is_zero_level l) (value_steps d.type value) _ (λ y. (l : Level) × HasSort w d.type l × BodyHolds w d l (as_thm value))
    (λ z. sound_value w d.type value ((l : Level) × HasSort w d.type l × (IsOf w value d.type × (is_zero_level l ≡ true))) f g (λ v. (l, h, (v, z))))
    (λ z. tt))

pub sound_unit : (w : Book) (d : Decl) → DeclWellFormed d → IsSound w (unit_steps d) (λ y. DeclHolds w d)
sound_unit w d f = sound_map w (unit_steps d) (λ y. (l : Level) × HasSort w d.type l × BodyHolds w d l d.body) (λ y. DeclHolds w d) (λ y h. record { level = h.0; sorted = h.1; body = h.2 }) (sound_body w d d.body f.0 f.1)

pub yes_holds : (table : Table) → IsSoundTable table → (w : Book) → WellStated w → (d : Decl) (b : ℕ) → DeclWellFormed d → IfAnswered (outcome_of w.place (plain_answer table w.place) b (unit_steps d)) (λ y c t. DeclHolds w d)
yes_holds table s w ok d b f = sound_run w (plain_answer table w.place) (λ y. DeclHolds w d) (λ q left a. ans_sound table s w ok q left a) (unit_steps d) b (sound_unit w d f)
