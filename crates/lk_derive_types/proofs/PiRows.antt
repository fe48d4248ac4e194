-- The row of a Pi.
use Rattle.std.proofs.Common.{ℕ, suc, ◌≡◌, ◌+◌, [], ◌∷◌, subst, sym, ap, ◌∙◌, arith}
use Rattle.lk_tree.specs.Tree.{Tree, Level, imax_level, sort, pi, local}
use Rattle.lk_tree.specs.Bind.{opened, bound, Fresh}
use Rattle.lk_tree.specs.WellFormed.{IsWellFormed}
use Rattle.lk_rulebook.specs.Place.{Place}
use Rattle.lk_rulebook.specs.WellStated.{WellStated}
use Rattle.lk_rulebook.specs.Claims.{types, reduces}
use Rattle.lk_questions.specs.Query.{infer, whnf}
use Rattle.lk_questions.specs.Program.{Program, done, ◌>>=◌}
use Rattle.lk_questions.specs.Steps.{sort_of}
use Rattle.lk_claims.proofs.Facts.{pi_bound_left, body_fine}
use Rattle.lk_written.specs.Line.{pi_rule}
use Rattle.lk_step.specs.Rows.{IsAnswered, no_claim, a_claim}
use Rattle.lk_step.specs.Runs.{IsOpened, AreOne}
use Rattle.lk_step.specs.Shaped.{IsShapedAnswer}
use Rattle.lk_step.specs.Told.{IsAnsweredWithin, IsType, IsForm}
use Rattle.lk_step.proofs.Runs.{opened_so, one_answer}
use Rattle.lk_step.proofs.Shapes.{shaped_answer}
use Rattle.lk_step.proofs.TypingSteps.{typing_steps}
use Rattle.lk_derive_types.specs.Parts.{IsSortedWithin}
use Rattle.lk_derive_types.specs.TypeRows.{IsTypedRow}
use Rattle.lk_derive_types.proofs.RunParts.{SortRun, sort_run}

-- the Local under the binder
abbrev pub pi_local : Tree → Tree → Tree
pi_local A B = local (bound (pi A B)) A

-- what a run of the row says
pub record PiTypeRun (w : Place) (A B T : Tree) (c : ℕ) : Type 0 where
  pub between : Tree
  pub level : Level
  pub inside : Tree
  pub inside_level : Level
  pub first : ℕ
  pub second : ℕ
  pub third : ℕ
  pub fourth : ℕ
  pub typed : IsAnswered w (infer A) between first
  pub reduced : IsAnswered w (whnf between) (sort level) second
  pub inside_typed : IsAnswered w (infer (opened B (pi_local A B))) inside third
  pub inside_reduced : IsAnswered w (whnf inside) (sort inside_level) fourth
  pub is : sort (imax_level level inside_level) ≡ T
  pub paid : c ≡ suc (first + (second + (third + fourth)))

abbrev pi_last : Level → Level → Program Tree
pi_last u v = done (sort (imax_level u v))

abbrev pi_rest : Tree → Tree → Level → Program Tree
pi_rest A B u = sort_of (opened B (pi_local A B)) >>= λ v. pi_last u v

pub pi_type_run : (w : Place) (A B T : Tree) (c : ℕ) → IsAnswered w (infer (pi A B)) T c → PiTypeRun w A B T c
pi_type_run w A B T c h =
    let o : IsOpened w (infer (pi A B)) T c = opened_so w (infer (pi A B)) T c h in
    let s : SortRun w A (λ u. pi_rest A B u) T o.0 = sort_run w A (λ u. pi_rest A B u) T o.0 o.2 in
    let t : SortRun w (opened B (pi_local A B)) (λ v. pi_last s.level v) T s.more = sort_run w (opened B (pi_local A B)) (λ v. pi_last s.level v) T s.more s.then_runs in
    let p : c ≡ suc o.0 = o.1 in
    let q : o.0 ≡ s.first + (s.second + s.more) = s.paid in
    let x : s.more ≡ t.first + (t.second + t.more) = t.paid in
    let z : t.more ≡ 0 = t.then_runs.1 in
    record {
      between = s.between;
      level = s.level;
      inside = t.between;
      inside_level = t.level;
      first = s.first;
      second = s.second;
      third = t.first;
      fourth = t.second;
      typed = s.typed;
      reduced = s.reduced;
      inside_typed = t.typed;
      inside_reduced = t.reduced;
      is = t.then_runs.0;
      paid = omega (arith, p, q, x, z);
    }

pub pi_domain : (w : Place) (A B : Tree) (most : ℕ) → IsAnsweredWithin w (infer (pi A B)) most → IsSortedWithin w A most
pi_domain w A B most h =
    let r : PiTypeRun w A B h.0 h.1 = pi_type_run w A B h.0 h.1 h.2 in
    let p : h.1 ≡ suc (r.first + (r.second + (r.third + r.fourth))) = r.paid in
    record { between = r.between; level = r.level; first = r.first; second = r.second; typed = r.typed; reduced = r.reduced; first_within = omega (arith, p, h.3); second_within = omega (arith, p, h.3) }

pub pi_inside : (w : Place) (A B : Tree) (most : ℕ) → IsAnsweredWithin w (infer (pi A B)) most → IsSortedWithin w (opened B (pi_local A B)) most
pi_inside w A B most h =
    let r : PiTypeRun w A B h.0 h.1 = pi_type_run w A B h.0 h.1 h.2 in
    let p : h.1 ≡ suc (r.first + (r.second + (r.third + r.fourth))) = r.paid in
    record { between = r.inside; level = r.inside_level; first = r.third; second = r.fourth; typed = r.inside_typed; reduced = r.inside_reduced; first_within = omega (arith, p, h.3); second_within = omega (arith, p, h.3) }

pub pi_typed : (w : Place) → WellStated w → (A B S T : Tree) (u v : Level) (most : ℕ) → IsWellFormed (pi A B) → IsAnsweredWithin w (infer (pi A B)) most → IsType w A S → IsForm w S (sort u) → IsType w (opened B (pi_local A B)) T → IsForm w T (sort v) →
    IsTypedRow w (pi_rule (pi_local A B)) (pi A B) (sort (imax_level u v)) (infer A ∷ whnf S ∷ infer (opened B (pi_local A B)) ∷ whnf T ∷ []) (types A S ∷ reduces S (sort u) ∷ types (opened B (pi_local A B)) T ∷ reduces T (sort v) ∷ [])
pi_typed w ok A B S T u v most f h t s i j =
    let k : ℕ = bound (pi A B) in
    let x : Tree = opened B (pi_local A B) in
    let r : PiTypeRun w A B h.0 h.1 = pi_type_run w A B h.0 h.1 h.2 in
    let p : h.1 ≡ suc (r.first + (r.second + (r.third + r.fourth))) = r.paid in
    let o₁ : AreOne S r.between t.cost r.first = one_answer w (infer A) S r.between t.cost r.first t.answered r.typed in
    let o₂ : AreOne (sort u) (sort r.level) s.cost r.second = one_answer w (whnf S) (sort u) (sort r.level) s.cost r.second s.answered (subst (λ z. IsAnswered w (whnf z) (sort r.level) r.second) (sym o₁.answer) r.reduced) in
    let o₃ : AreOne T r.inside i.cost r.third = one_answer w (infer x) T r.inside i.cost r.third i.answered r.inside_typed in
    let o₄ : AreOne (sort v) (sort r.inside_level) j.cost r.fourth = one_answer w (whnf T) (sort v) (sort r.inside_level) j.cost r.fourth j.answered (subst (λ z. IsAnswered w (whnf z) (sort r.inside_level) r.fourth) (sym o₃.answer) r.inside_reduced) in
    let u_is : u ≡ r.level = sort_inj u r.level o₂.answer in
    let v_is : v ≡ r.inside_level = sort_inj v r.inside_level o₄.answer in
    let a : IsAnswered w (infer (pi A B)) (sort (imax_level u v)) h.1 =
    subst (λ z. IsAnswered w (infer (pi A B)) z h.1) (sym (ap (λ z. sort (imax_level z v)) u_is ∙ (ap (λ z. sort (imax_level r.level z)) v_is ∙ r.is))) h.2 in
    let fB : IsWellFormed x = body_fine k A B f.0 f.1 (pi_bound_left A B k (omega arith)) in
    let sS : IsShapedAnswer (infer A) S = shaped_answer w ok (infer A) S t.cost f.0 t.answered in
    let sT : IsShapedAnswer (infer x) T = shaped_answer w ok (infer x) T i.cost fB i.answered in
    let fresh : Fresh k (pi A B ∷ []) = (omega arith, tt) in
    let e₁ : t.cost ≡ r.first = o₁.cost in
    let e₂ : s.cost ≡ r.second = o₂.cost in
    let e₃ : i.cost ≡ r.third = o₃.cost in
    let e₄ : j.cost ≡ r.fourth = o₄.cost in
    record {
      cost = h.1;
      answered = a;
      spent = t.cost + (s.cost + (i.cost + (j.cost + 0)));
      asked = a_claim (infer A) S t.cost f.0 t.answered tt (a_claim (whnf S) (sort u) s.cost sS.0.1 s.answered tt (a_claim (infer x) T i.cost fB i.answered tt (a_claim (whnf T) (sort v) j.cost sT.0.1 j.answered tt no_claim)));
      less = omega (arith, p, e₁, e₂, e₃, e₄);
      holds = (typing_steps w).pis A B S T u v k fresh f;
    }
  where
    sort_inj : (l m : Level) → sort l ≡ sort m → l ≡ m
    sort_inj l m e = cc
