-- The question table is sound: derivations are a property that follows the rules.
use Rattle.std.proofs.Common.{ℕ, length, List, [], ◌∷◌, Option, Some, None, subst}
use Rattle.lk_tree.specs.Tree.{Name, Level, Tree}
use Rattle.lk_tree.specs.Operations.{Op}
use Rattle.lk_tree.proofs.Zero.{zero_level_same}
use Rattle.lk_rulebook.specs.Place.{Place, Entry, Hint, a_def}
use Rattle.lk_rulebook.specs.NumberLaws.{Law, laws_of, stated_by}
use Rattle.lk_rulebook.specs.Shapes as shapes
use Rattle.lk_rulebook.specs.Literals.{CanBeStated}
use Rattle.lk_rulebook.specs.Quotients.{IsQuotient}
use Rattle.lk_rulebook.specs.Rules as rules
use Rattle.lk_rulebook.specs.Derived as given
use Rattle.lk_rulebook.specs.Derived.{DeclWellFormed, BodyDerived, DeclDerived}
use Rattle.lk_rulebook.specs.Units.{Body, as_axiom, as_def, as_thm, as_opaque, as_quot, Decl}
use Rattle.lk_questions.specs.Query.{Query, AnswerTo, core, whnf, infer, same}
use Rattle.lk_questions.specs.Program.{Program, done, refuse, ask, look, Table}
use Rattle.lk_questions.specs.Answer.{IfAnswered, outcome_of, plain_answer}
use Rattle.lk_questions.specs.Sound.{IsAskable, IsSoundPlace, IsSoundTable}
use Rattle.lk_questions.specs.Sound as sound
use Rattle.lk_questions.proofs.Soundness.{sound_run, sound_answer}
use Rattle.lk_questions.specs.Table.{steps}
use Rattle.lk_questions.specs.Declarations.{unit_steps}
use Rattle.lk_questions.specs.QuotientUnits.{quot_steps}
use Rattle.lk_questions.specs.Shapes.{nat_shape}
use Rattle.lk_questions.specs.NumberLaws.{lawful_op, def_given}
use Rattle.lk_rulebook.specs.Claims.{Derived}
use Rattle.lk_claims.proofs.Pieces.{Some_inj, equal_numbers, no_item, if_yes_map}
use Rattle.lk_claims.proofs.Facts.{found_holds}
use Rattle.lk_claims.proofs.Shaped as shaped
use Rattle.lk_claims.proofs.QuotChecks as quot_checks
use Rattle.lk_claims.proofs.NumberLaws.{HasLaws, sound_def_given, lawful_of}
use Rattle.lk_claims.proofs.Derivations.{derived_shaped, types_derived, reductions_derived, equalities_derived}
use Rattle.lk_table_sound.proofs.Book.{Book, IsJustified, IsSound}
use Rattle.lk_table_sound.proofs.WholeTable as general
use Rattle.lk_table_sound.proofs.NumberLaws.{EachMet, AreMet}
use Rattle.lk_table_sound.proofs.Declarations.{IsOf, BodyHolds, DeclHolds, sound_unit}

-- that a claim is derived at a sound place
abbrev pub derived_at : (w : Place) → IsSoundPlace w → Book
derived_at w ok = record { place = w; holds = Derived w; shaped = λ c h. derived_shaped w c h; typing = types_derived w; reduction = reductions_derived w ok.lawful; conversion = equalities_derived w }

module _ (w : Place) (ok : IsSoundPlace w) where
  justified : (q : Query) (v : AnswerTo q) → IsJustified (derived_at w ok) q v → sound.IsJustified w q v
  justified (core e) v h = ((h.0.0.shown, h.0.1), h.1)
  justified (whnf e) v h = (h.0.shown, h.1)
  justified (infer e) v h = (h.0.shown, h.1)
  justified (same a b) v h = if_yes_map v (λ x. x.shown) h

  from_rules : (q : Query) (v : AnswerTo q) → sound.IsJustified w q v → IsJustified (derived_at w ok) q v
  from_rules (core e) v h = ((record { shown = h.0.0 }, h.0.1), h.1)
  from_rules (whnf e) v h = (record { shown = h.0 }, h.1)
  from_rules (infer e) v h = (record { shown = h.0 }, h.1)
  from_rules (same a b) v h = if_yes_map v (λ x. record { shown = x }) h

  -- what is sound of derivations is sound at the place
  at_place : {A : Type 0} (p : Program A) (P Q : A → Type 0) → ((v : A) → P v → Q v) → IsSound (derived_at w ok) p P → sound.IsSound w p Q
  at_place (done v) P Q f s = f v s
  at_place (refuse r) P Q f s = tt
  at_place (ask q k) P Q f s = (s.0, λ v m. at_place (k v) P Q f (s.1 v (from_rules q v m)))
  at_place (look r c k) P Q f s = λ e m. at_place (k e) P Q f (s e m)

  all_met : (laws : List Law) → EachMet (derived_at w ok) laws → rules.AllHold w laws
  all_met [] h = rules.no_more_laws
  all_met (law ∷ laws) h = rules.holds h.0.1.shown (all_met laws h.1)

  has_laws : (o : Option Op) (ps : List Name) (type : Tree) (h : Hint) (value : Tree) → AreMet (derived_at w ok) o ps value → HasLaws w (record { levels = ps; type = type; kind = a_def h value }) o
  has_laws None ps type h value m = λ op e. absurd cc
  has_laws (Some op) ps type h value m =
      let g : Entry = record { levels = ps; type = type; kind = a_def h value } in
      let shape : shapes.HasNat w = found_holds w nat_shape (λ u. shapes.HasNat w) tt (shaped.sound_nat_shape w) m.0 in
      let stated : CanBeStated w (stated_by op) = found_holds w (def_given (stated_by op)) (λ u. CanBeStated w (stated_by op)) tt (sound_def_given w (stated_by op)) m.2 in
      λ p e. (shape, subst (λ q. rules.MeetsLaws w q g) (Some_inj e) (rules.meets (λ t. no_item ps (equal_numbers (length ps) 0 m.1)) stated (all_met (laws_of op value) m.3)))

  is_of : (value type : Tree) → IsOf (derived_at w ok) value type → given.IsOf w value type
  is_of value type h = record { inferred = h.inferred; types = h.types.shown; equals = h.equals.shown }

  body_derived : (d : Decl) (l : Level) (b : Body) → BodyHolds (derived_at w ok) d l b → BodyDerived w d l b
  body_derived d l as_axiom h = tt
  body_derived d l (as_def i value) h = (is_of value d.type h.0, lawful_of w d i value (has_laws (lawful_op d.name) d.levels d.type i value h.1))
  body_derived d l (as_thm value) h = (is_of value d.type h.0, zero_level_same l h.1)
  body_derived d l (as_opaque value) h = is_of value d.type h
  body_derived d l as_quot h = found_holds w (quot_steps d.name d.levels d.type) (λ u. IsQuotient w d.name d.levels d.type) tt (quot_checks.sound_quot_steps w d.name d.levels d.type) h

  decl_derived : (d : Decl) → DeclHolds (derived_at w ok) d → DeclDerived w d
  decl_derived d h = record { level = h.level; sorted = rules.has_sort h.sorted.types.shown h.sorted.reduces.shown; body = body_derived d h.level d.body h.body }

pub sound_steps : IsSoundTable steps
sound_steps w ok q a = at_place w ok (steps q) (IsJustified (derived_at w ok) q) (sound.IsJustified w q) (justified w ok q) (general.sound_steps (derived_at w ok) ok.stated q a)

pub ans_sound : (table : Table) → IsSoundTable table → (w : Place) → IsSoundPlace w → (q : Query) (b : ℕ) → IsAskable q → IfAnswered (plain_answer table w q b) (λ v c t. sound.IsJustified w q v)
ans_sound table s w ok q b f = sound_answer table w (s w ok) b q b f

pub yes_is_good : (table : Table) → IsSoundTable table → (w : Place) → IsSoundPlace w → (d : Decl) (b : ℕ) → DeclWellFormed d → IfAnswered (outcome_of w (plain_answer table w) b (unit_steps d)) (λ y c t. DeclDerived w d)
yes_is_good table s w ok d b f =
    sound_run w (plain_answer table w) (λ y. DeclDerived w d) (λ q left a. ans_sound table s w ok q left a) (unit_steps d) b
    (at_place w ok (unit_steps d) (λ y. DeclHolds (derived_at w ok) d) (λ y. DeclDerived w d) (λ y h. decl_derived w ok d h) (sound_unit (derived_at w ok) d f))
