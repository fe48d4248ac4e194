-- Steps of typing: what a step of each rule rests on, and that its line holds wherever that is
-- stated. Beside it a step has two trees that are closed and well scoped, and what its line tests.
use Rattle.std.specs.Prelude.{ℕ, zero, suc, ◌≡◌, ◌<◌, Bool, true, false, ◌&&◌, List, [], ◌∷◌, Some}
use Rattle.lk_tree.specs.Tree.{Name, Level, succ_level, imax_level, Tree, sort, const, lam, pi}
use Rattle.lk_tree.specs.Tree.{let_in, proj, lit, str, local}
use Rattle.lk_tree.specs.Bind.{opened, Fresh, has_var}
use Rattle.lk_tree.specs.Level.{is_zero_level}
use Rattle.lk_tree.specs.Spine.{apply}
use Rattle.lk_tree.specs.WellFormed.{IsWellFormed}
use Rattle.lk_rulebook.specs.Place.{Place}
use Rattle.lk_rulebook.specs.Names.{named, nat, string}
use Rattle.lk_rulebook.specs.Structures.{Projectable, projectable_type, ctor_type}
use Rattle.lk_rulebook.specs.Rules.{IsGivenAt, at_levels}
use Rattle.lk_rulebook.specs.Claims.{Claim, types, reduces, equals}
use Rattle.lk_questions.specs.Shapes.{nat_shape, string_shape}
use Rattle.lk_questions.specs.Tests.{found}
use Rattle.lk_written.specs.Line.{sort_rule, local_rule, const_rule, app_rule, let_rule, lit_rule}
use Rattle.lk_written.specs.Line.{str_rule, proj_rule, lam_rule, pi_rule}
use Rattle.lk_step.specs.Steps.{typing, StepHolds}
use Rattle.lk_step.specs.Shaped.{AllShaped}

-- F, applied to these arguments, comes to T. It rests on F >> Pi A B, x => X and X == A for each
-- argument x, behind which F is B[x].
pub data ArgumentPremises : Tree → List Tree → List Claim → Tree → Type 0 where
  no_argument : {F : Tree} → ArgumentPremises F [] [] F
  argument : {F A B x X T : Tree} {xs : List Tree} {cs : List Claim} →
      ArgumentPremises (opened B x) xs cs T →
      ArgumentPremises F (x ∷ xs) (reduces F (pi A B) ∷ types x X ∷ equals X A ∷ cs) T

-- T is left of r after n Pis, the first n of bs put in. It rests on a reduction to each Pi, the
-- first claims of the one list, before those of the other.
pub data ParameterPremises :
    List Tree → ℕ → Tree → List Claim → List Claim → Tree → Type 0 where
  no_parameter : {bs : List Tree} {r : Tree} {cs : List Claim} →
      ParameterPremises bs zero r cs cs r
  parameter : {b : Tree} {bs : List Tree} {n : ℕ} {r A B T : Tree} {cs ds : List Claim} →
      ParameterPremises bs n (opened B b) cs ds T →
      ParameterPremises (b ∷ bs) (suc n) r (reduces r (pi A B) ∷ cs) ds T

-- A is a proposition, where that is due. It rests on the first claims of the one list, before those
-- of the other.
pub data PropPremises : Bool → Tree → List Claim → List Claim → Type 0 where
  not_due : {A : Tree} {cs : List Claim} → PropPremises false A cs cs
  due : {A S : Tree} {l : Level} {cs : List Claim} → is_zero_level l ≡ true →
      PropPremises true A (types A S ∷ reduces S (sort l) ∷ cs) cs

-- F is the domain of the field that is n further on than number j, with which r begins. It rests on
-- a reduction to each Pi and, where q holds, directly behind it on the sort of its domain, if that
-- is F itself or the rest of the type mentions its variable.
pub data FieldPremises (S : Name) (s : Tree) (q : Bool) :
    ℕ → ℕ → Tree → List Claim → Tree → Type 0 where
  this_field : {j : ℕ} {r F B : Tree} {cs : List Claim} → PropPremises q F cs [] →
      FieldPremises S s q j zero r (reduces r (pi F B) ∷ cs) F
  field_before : {j n : ℕ} {r A B F : Tree} {cs ds : List Claim} →
      PropPremises (q && has_var 0 B) A cs ds →
      FieldPremises S s q (suc j) n (opened B (proj S j s)) ds F →
      FieldPremises S s q j (suc n) r (reduces r (pi A B) ∷ cs) F

pub record TypingSteps (w : Place) : Type 0 where
  pub sorts : (l : Level) → StepHolds w (typing sort_rule (sort l) (sort (succ_level l)) [])
  pub locals : (k : ℕ) (T : Tree) → IsWellFormed (local k T) →
      StepHolds w (typing local_rule (local k T) T [])
  pub consts : (c : Name) (ls : List Level) (g : IsGivenAt w c ls) →
      IsWellFormed (at_levels g g.entry.type) →
      StepHolds w (typing const_rule (const c ls) (at_levels g g.entry.type) [])
  pub apps : (f F T x : Tree) (xs : List Tree) (cs : List Claim) →
      ArgumentPremises F (x ∷ xs) cs T → IsWellFormed (apply f (x ∷ xs)) → IsWellFormed T →
      StepHolds w (typing app_rule (apply f (x ∷ xs)) T (types f F ∷ cs))
  pub lams : (A b B S : Tree) (l : Level) (k : ℕ) → Fresh k (lam A b ∷ pi A B ∷ []) →
      IsWellFormed (lam A b) → IsWellFormed (pi A B) →
      StepHolds w (typing (lam_rule (local k A)) (lam A b) (pi A B) (types A S
      ∷ reduces S (sort l) ∷ types (opened b (local k A)) (opened B (local k A)) ∷ []))
  pub pis : (A B S T : Tree) (u v : Level) (k : ℕ) → Fresh k (pi A B ∷ []) →
      IsWellFormed (pi A B) →
      StepHolds w (typing (pi_rule (local k A)) (pi A B) (sort (imax_level u v)) (types A S
      ∷ reduces S (sort u) ∷ types (opened B (local k A)) T ∷ reduces T (sort v) ∷ []))
  pub lets : (A v b V B S : Tree) (l : Level) → IsWellFormed (let_in A v b) → IsWellFormed B →
      StepHolds w (typing let_rule (let_in A v b) B (types A S ∷ reduces S (sort l)
      ∷ types v V ∷ equals V A ∷ types (opened b v) B ∷ []))
  pub lits : (n : ℕ) → found w nat_shape ≡ Some tt → IsWellFormed (lit n) →
      StepHolds w (typing lit_rule (lit n) (named nat) [])
  pub strs : (s : List ℕ) → found w string_shape ≡ Some tt →
      StepHolds w (typing str_rule (str s) (named string) [])
  pub projs : (S : Projectable w) (i : ℕ) (e T₀ U T F : Tree) (l : Level) (cs ds : List Claim) →
      i < S.ctor.fields →
      ParameterPremises S.args S.ind.parameters (ctor_type S) cs ds T →
      FieldPremises S.name e (is_zero_level l) 0 i T ds F → AllShaped cs →
      IsWellFormed e → IsWellFormed F →
      StepHolds w (typing proj_rule (proj S.name i e) F (types e T₀
      ∷ reduces T₀ (projectable_type S) ∷ types (projectable_type S) U ∷ reduces U (sort l) ∷ cs))
