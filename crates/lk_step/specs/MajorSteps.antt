-- Steps of reduction by what a major premise is, or by the numbers that arguments come to: for each
-- rule, what it asks beside its premises for its step to hold.
use Rattle.std.specs.Prelude.{ℕ, ◌≡◌, false, List, [], ◌∷◌, Some}
use Rattle.lk_tree.specs.Tree.{Level, Tree, sort, const, app}
use Rattle.lk_tree.specs.Level.{is_zero_level}
use Rattle.lk_tree.specs.Operations.{Op, op_value}
use Rattle.lk_tree.specs.Spine.{apply}
use Rattle.lk_tree.specs.WellFormed.{IsWellFormed, AllWellFormed}
use Rattle.lk_rulebook.specs.Place.{Place}
use Rattle.lk_rulebook.specs.Names.{named, op_name, quot_mk, quot_lift, quot_ind}
use Rattle.lk_rulebook.specs.Shapes.{HasNat}
use Rattle.lk_rulebook.specs.Literals.{IsNumeral, IsOperation}
use Rattle.lk_rulebook.specs.Quotients.{IsQuot}
use Rattle.lk_rulebook.specs.Structures.{StructureAt, structure_type, expanded, ctor_app, RecApp}
use Rattle.lk_rulebook.specs.Structures.{on_major, HasOnlyRule, KMajor, k_type}
use Rattle.lk_rulebook.specs.Claims.{Claim, types, reduces, equals}
use Rattle.lk_questions.specs.Shapes.{nat_shape}
use Rattle.lk_questions.specs.Literals.{numeral_of, result_of}
use Rattle.lk_questions.specs.Tests.{found}
use Rattle.lk_written.specs.Line.{k_rule, expand_rule, lift_rule, ind_rule, operation_rule}
use Rattle.lk_written.specs.Written.{CanWrite, KeepsNumerals}
use Rattle.lk_step.specs.Steps.{reduction, StepHolds}

-- e => T0, T0 >> T, d => D, T == D
abbrev pub k_claims : Tree → Tree → Tree → Tree → Tree → List Claim
k_claims e T₀ T d D = types e T₀ ∷ reduces T₀ T ∷ types d D ∷ equals T D ∷ []

-- m => T0, T0 >> T, T => U, U >> Sort l
abbrev pub expand_claims : Tree → Tree → Tree → Tree → Level → List Claim
expand_claims m T₀ T U l = types m T₀ ∷ reduces T₀ T ∷ types T U ∷ reduces U (sort l) ∷ []

-- a numeral is said to reduce to itself alone
abbrev pub KeepsNumeral : Claim → Type 0
KeepsNumeral (types e T) = Unit {0}
KeepsNumeral (reduces a b) = (n : ℕ) → IsNumeral a n → a ≡ b
KeepsNumeral (equals a b) = Unit {0}

-- by these claims, which have the property, each tree reduces to a numeral of its number
pub data AreNumerals (C : Claim → Type 0) : List Tree → List ℕ → List Claim → Type 0 where
  no_numeral : AreNumerals C [] [] []
  a_numeral : {e v : Tree} {n : ℕ} {es : List Tree} {ns : List ℕ} {cs : List Claim} →
      C (reduces e v) → numeral_of v ≡ Some n → AreNumerals C es ns cs →
      AreNumerals C (e ∷ es) (n ∷ ns) (reduces e v ∷ cs)

-- each reduction of a among these is one to b
abbrev pub Agrees : Tree → Tree → List Claim → Type 0
Agrees a b [] = Unit {0}
Agrees a b (types e T ∷ cs) = Agrees a b cs
Agrees a b (reduces x y ∷ cs) = (x ≡ a → y ≡ b) × Agrees a b cs
Agrees a b (equals x y ∷ cs) = Agrees a b cs

-- equal trees reduce to equal ones
abbrev pub AllAgree : List Claim → Type 0
AllAgree [] = Unit {0}
AllAgree (types e T ∷ cs) = AllAgree cs
AllAgree (reduces a b ∷ cs) = Agrees a b cs × AllAgree cs
AllAgree (equals a b ∷ cs) = AllAgree cs

-- whatever a claim is
abbrev pub IsAny : Claim → Type 0
IsAny c = Unit {0}

-- A line of an operation does not tell of which of two equal arguments a reduction is, so that what
-- is said of a numeral matters. Where Nat.zero has no value, what can be written says it rightly.
pub record MajorSteps (w : Place) : Type 0 where
  pub k : (R : RecApp w) (k : KMajor R) (e T₀ D : Tree) → IsWellFormed e →
      IsWellFormed (ctor_app k.ctor) →
      StepHolds w (reduction k_rule (on_major R e) (on_major R (ctor_app k.ctor))
      (k_claims e T₀ (k_type k) (ctor_app k.ctor) D))
  pub expand : (R : RecApp w) (S : StructureAt w) (m T₀ U : Tree) (l : Level) →
      HasOnlyRule R S.structure.ctor_name → is_zero_level l ≡ false → IsWellFormed m →
      IsWellFormed (expanded S m) →
      StepHolds w (reduction expand_rule (on_major R m) (on_major R (expanded S m))
      (expand_claims m T₀ (structure_type S) U l))
  pub lift : (ls ks : List Level) (A r B f h m A' r' a : Tree) → IsQuot w quot_lift →
      IsQuot w quot_mk → AllWellFormed (A ∷ r ∷ B ∷ f ∷ h ∷ m ∷ []) → IsWellFormed a →
      StepHolds w (reduction lift_rule
      (apply (const quot_lift ls) (A ∷ r ∷ B ∷ f ∷ h ∷ m ∷ [])) (app f a)
      (reduces m (apply (const quot_mk ks) (A' ∷ r' ∷ a ∷ [])) ∷ []))
  pub ind : (ls ks : List Level) (A r B h m A' r' a : Tree) → IsQuot w quot_ind →
      IsQuot w quot_mk → AllWellFormed (A ∷ r ∷ B ∷ h ∷ m ∷ []) → IsWellFormed a →
      StepHolds w (reduction ind_rule
      (apply (const quot_ind ls) (A ∷ r ∷ B ∷ h ∷ m ∷ [])) (app h a)
      (reduces m (apply (const quot_mk ks) (A' ∷ r' ∷ a ∷ [])) ∷ []))
  pub operation : (op : Op) (es : List Tree) (ns : List ℕ) (r : Tree) (cs : List Claim) →
      IsOperation w op → found w nat_shape ≡ Some tt → AreNumerals KeepsNumeral es ns cs →
      found w (result_of (op_value op ns)) ≡ Some (Some r) → AllWellFormed es → IsWellFormed r →
      StepHolds w (reduction operation_rule (apply (named (op_name op)) es) r cs)
  pub written_operation : KeepsNumerals w → HasNat w → (op : Op) (es : List Tree) (ns : List ℕ)
      (r : Tree) (cs : List Claim) → IsOperation w op → found w nat_shape ≡ Some tt →
      AreNumerals (CanWrite w) es ns cs → found w (result_of (op_value op ns)) ≡ Some (Some r) →
      IsWellFormed r →
      StepHolds w (reduction operation_rule (apply (named (op_name op)) es) r cs)
  pub operation_agreed : (op : Op) (es : List Tree) (ns : List ℕ) (r : Tree) (cs : List Claim) →
      IsOperation w op → found w nat_shape ≡ Some tt → AreNumerals IsAny es ns cs → AllAgree cs →
      found w (result_of (op_value op ns)) ≡ Some (Some r) → AllWellFormed es → IsWellFormed r →
      StepHolds w (reduction operation_rule (apply (named (op_name op)) es) r cs)
