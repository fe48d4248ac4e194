-- Steps of conversion: for each rule, what it asks beside its premises for its step to hold.
use Rattle.std.specs.Prelude.{ℕ, suc, ◌≡◌, ◌<◌, true, List, [], ◌∷◌, length, Some}
use Rattle.std.specs.Str.{chars}
use Rattle.lk_tree.specs.Tree.{Name, Level, Tree, sort, const, app, lam, pi, proj, lit, str, local}
use Rattle.lk_tree.specs.Bind.{opened, Fresh}
use Rattle.lk_tree.specs.Level.{is_zero_level}
use Rattle.lk_tree.specs.LevelTest.{level_test}
use Rattle.lk_tree.specs.Spine.{apply, IsNeutral, IsHeadNormal}
use Rattle.lk_tree.specs.WellFormed.{IsWellFormed}
use Rattle.lk_rulebook.specs.Place.{Place}
use Rattle.lk_rulebook.specs.Names.{named, nat_zero, nat_succ}
use Rattle.lk_rulebook.specs.Literals.{expansion}
use Rattle.lk_rulebook.specs.Structures.{UnitLike, StructureAt, structure_value}
use Rattle.lk_rulebook.specs.Claims.{Claim, types, reduces, equals}
use Rattle.lk_questions.specs.Same.{eta_long}
use Rattle.lk_questions.specs.Strings.{expansion_of}
use Rattle.lk_questions.specs.Tests.{found, is_true, same_levels}
use Rattle.lk_written.specs.Line.{reduce_rule, sorts_rule, consts_rule, apps_rule, projs_rule}
use Rattle.lk_written.specs.Line.{lams_rule, pis_rule, eta_rule, struct_left_rule}
use Rattle.lk_written.specs.Line.{struct_right_rule, unit_rule, proof_rule, zero_rule, succ_rule}
use Rattle.lk_written.specs.Line.{str_left_rule, str_right_rule}
use Rattle.lk_step.specs.Steps.{equality, StepHolds}

-- x == y for each two
abbrev pub argument_claims : List Tree → List Tree → List Claim
argument_claims (x ∷ xs) (y ∷ ys) = equals x y ∷ argument_claims xs ys
argument_claims (x ∷ xs) [] = []
argument_claims [] ys = []

-- Proj(J, j, a) == x for each x, with j rising
abbrev pub field_claims : Name → Tree → ℕ → List Tree → List Claim
field_claims J a j [] = []
field_claims J a j (x ∷ xs) = equals (proj J j a) x ∷ field_claims J a (suc j) xs

-- f == g, and then the arguments
abbrev pub spine_claims : Tree → Tree → List Tree → List Tree → List Claim
spine_claims f g xs ys = equals f g ∷ argument_claims xs ys

-- A == A', and then the bodies under this Local
abbrev pub body_claims : Tree → Tree → Tree → Tree → Tree → List Claim
body_claims x A A' b b' = equals A A' ∷ equals (opened b x) (opened b' x) ∷ []

-- a => A, A >> T, b => B, A == B
abbrev pub unit_claims : Tree → Tree → Tree → Tree → Tree → List Claim
unit_claims a b A B T = types a A ∷ reduces A T ∷ types b B ∷ equals A B ∷ []

-- a => A, A => S, S >> Sort l, b => B, A == B
abbrev pub proof_claims : Tree → Tree → Tree → Tree → Tree → Level → List Claim
proof_claims a b A B S l =
    types a A ∷ types A S ∷ reduces S (sort l) ∷ types b B ∷ equals A B ∷ []

-- a => A, b => B, A == B, and then the fields of a
abbrev pub struct_claims : Tree → Tree → Tree → Tree → List Claim → List Claim
struct_claims a b A B fields = types a A ∷ types b B ∷ equals A B ∷ fields

-- A premise of one tree has no number. So where a is b, and the first reduction has none, the
-- second may have none either: it would be read as the first.
pub record EqualitySteps (w : Place) : Type 0 where
  pub reduce : (a b a' b' : Tree) → IsWellFormed a → IsWellFormed b →
      (a ≡ b → a ≡ a' → b ≡ b') →
      StepHolds w (equality reduce_rule a b (reduces a a' ∷ reduces b b' ∷ equals a' b' ∷ []))
  pub sorts : (l m : Level) → is_true (level_test l m) ≡ true →
      StepHolds w (equality sorts_rule (sort l) (sort m) [])
  pub consts : (c : Name) (ls ms : List Level) → same_levels ls ms ≡ true →
      StepHolds w (equality consts_rule (const c ls) (const c ms) [])
  pub apps : (f g : Tree) (xs ys : List Tree) → IsNeutral f → IsNeutral g → 0 < length xs →
      length xs ≡ length ys → IsWellFormed (apply f xs) → IsWellFormed (apply g ys) →
      StepHolds w (equality apps_rule (apply f xs) (apply g ys) (spine_claims f g xs ys))
  pub lams : (A A' b b' : Tree) (k : ℕ) → Fresh k (lam A b ∷ lam A' b' ∷ []) →
      IsWellFormed (lam A b) → IsWellFormed (lam A' b') →
      StepHolds w (equality (lams_rule (local k A)) (lam A b) (lam A' b')
      (body_claims (local k A) A A' b b'))
  pub pis : (A A' B B' : Tree) (k : ℕ) → Fresh k (pi A B ∷ pi A' B' ∷ []) →
      IsWellFormed (pi A B) → IsWellFormed (pi A' B') →
      StepHolds w (equality (pis_rule (local k A)) (pi A B) (pi A' B')
      (body_claims (local k A) A A' B B'))
  pub projs : (S : Name) (i : ℕ) (s t : Tree) → IsWellFormed s → IsWellFormed t →
      StepHolds w (equality projs_rule (proj S i s) (proj S i t) (equals s t ∷ []))
  pub eta_left : (o T A B A' b : Tree) → IsNeutral o → IsWellFormed o → IsWellFormed (lam A' b) →
      StepHolds w (equality eta_rule o (lam A' b)
      (types o T ∷ reduces T (pi A B) ∷ equals (eta_long A o) (lam A' b) ∷ []))
  pub eta_right : (o T A B A' b : Tree) → IsNeutral o → IsWellFormed o → IsWellFormed (lam A' b) →
      StepHolds w (equality eta_rule (lam A' b) o
      (types o T ∷ reduces T (pi A B) ∷ equals (lam A' b) (eta_long A o) ∷ []))
  pub proof : (a b A B S : Tree) (l : Level) → IsHeadNormal a → IsHeadNormal b →
      is_zero_level l ≡ true → IsWellFormed a → IsWellFormed b →
      StepHolds w (equality proof_rule a b (proof_claims a b A B S l))
  pub zero_left : StepHolds w (equality zero_rule (lit 0) (named nat_zero) [])
  pub zero_right : StepHolds w (equality zero_rule (named nat_zero) (lit 0) [])
  pub succ_left : (n : ℕ) (x : Tree) → IsWellFormed (lit (suc n)) → IsWellFormed x →
      StepHolds w (equality succ_rule (lit (suc n)) (app (named nat_succ) x)
      (equals (lit n) x ∷ []))
  pub succ_right : (n : ℕ) (x : Tree) → IsWellFormed (lit (suc n)) → IsWellFormed x →
      StepHolds w (equality succ_rule (app (named nat_succ) x) (lit (suc n))
      (equals x (lit n) ∷ []))
  pub str_left : (s : List ℕ) (b : Tree) →
      found w (expansion_of s) ≡ Some (Some (expansion (chars s))) → IsWellFormed b →
      StepHolds w (equality str_left_rule (str s) b (equals (expansion (chars s)) b ∷ []))
  pub str_right : (s : List ℕ) (a : Tree) →
      found w (expansion_of s) ≡ Some (Some (expansion (chars s))) → IsWellFormed a →
      StepHolds w (equality str_right_rule a (str s) (equals a (expansion (chars s)) ∷ []))
  pub unit : (u : UnitLike w) (ls : List Level) (bs : List Tree) (a b A B : Tree) →
      IsHeadNormal a → IsHeadNormal b → length bs ≡ u.ind.parameters →
      IsWellFormed a → IsWellFormed b →
      StepHolds w (equality unit_rule a b (unit_claims a b A B (apply (const u.name ls) bs)))
  pub struct_left : (S : StructureAt w) (xs : List Tree) (a A B : Tree) → IsHeadNormal a →
      length xs ≡ S.structure.ctor.fields → IsWellFormed a → IsWellFormed (structure_value S xs) →
      StepHolds w (equality struct_left_rule a (structure_value S xs)
      (struct_claims a (structure_value S xs) A B (field_claims S.structure.ind.name a 0 xs)))
  pub struct_right : (S : StructureAt w) (xs : List Tree) (a A B : Tree) → IsHeadNormal a →
      length xs ≡ S.structure.ctor.fields → IsWellFormed a → IsWellFormed (structure_value S xs) →
      StepHolds w (equality struct_right_rule (structure_value S xs) a
      (struct_claims a (structure_value S xs) A B (field_claims S.structure.ind.name a 0 xs)))
