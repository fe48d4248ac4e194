-- The row of a lambda.
use Rattle.std.proofs.Common.{ℕ, suc, ◌≡◌, ◌≤◌, ◌+◌, [], ◌∷◌, subst, sym, ap, ◌∙◌, arith}
use Rattle.lk_tree.specs.Tree.{Tree, Level, sort, lam, pi, local}
use Rattle.lk_tree.specs.Bind.{opened, close, bound, Fresh}
use Rattle.lk_tree.specs.WellFormed.{IsWellFormed, LocalsWithin}
use Rattle.lk_tree.proofs.Within.{closed_bound, closed_reopens}
use Rattle.lk_rulebook.specs.Place.{Place}
use Rattle.lk_rulebook.specs.WellStated.{WellStated}
use Rattle.lk_rulebook.specs.Claims.{types, reduces}
use Rattle.lk_questions.specs.Query.{infer, whnf}
use Rattle.lk_questions.specs.Program.{done, ask}
use Rattle.lk_claims.proofs.Facts.{bound_right, bound_left, body_fine}
use Rattle.lk_written.specs.Line.{lam_rule}
use Rattle.lk_step.specs.Rows.{IsAnswered, no_claim, a_claim}
use Rattle.lk_step.specs.Runs.{Runs, IsOpened, AreOne}
use Rattle.lk_step.specs.Shaped.{IsShapedAnswer}
use Rattle.lk_step.specs.Steps.{typing, StepHolds}
use Rattle.lk_step.specs.Told.{IsAnsweredWithin, IsType, IsForm}
use Rattle.lk_step.proofs.Runs.{opened_so, one_answer}
use Rattle.lk_step.proofs.Shapes.{shaped_answer}
use Rattle.lk_step.proofs.TypingSteps.{typing_steps}
use Rattle.lk_derive_types.specs.Parts.{IsSortedWithin}
use Rattle.lk_derive_types.specs.TypeRows.{IsTypedRow}
use Rattle.lk_derive_types.proofs.RunParts.{SortRun, sort_run}

-- the Local under the binder
abbrev pub lam_local : Tree → Tree → Tree
lam_local A b = local (bound (lam A b)) A

-- what a run of the row says
pub record LamRun (w : Place) (A b T : Tree) (c : ℕ) : Type 0 where
  pub between : Tree
  pub level : Level
  pub type : Tree
  pub first : ℕ
  pub second : ℕ
  pub third : ℕ
  pub typed : IsAnswered w (infer A) between first
  pub reduced : IsAnswered w (whnf between) (sort level) second
  pub inside : IsAnswered w (infer (opened b (lam_local A b))) type third
  pub is : pi A (close (bound (lam A b)) type) ≡ T
  pub paid : c ≡ suc (first + (second + third))

pub lam_run : (w : Place) (A b T : Tree) (c : ℕ) → IsAnswered w (infer (lam A b)) T c → LamRun w A b T c
lam_run w A b T c h =
    let o : IsOpened w (infer (lam A b)) T c = opened_so w (infer (lam A b)) T c h in
    let s : SortRun w A (λ l. ask (infer (opened b (lam_local A b))) (λ B. done (pi A (close (bound (lam A b)) B)))) T o.0 = sort_run w A (λ l. ask (infer (opened b (lam_local A b))) (λ B. done (pi A (close (bound (lam A b)) B)))) T o.0 o.2 in
    let r : Runs w (ask (infer (opened b (lam_local A b))) (λ B. done (pi A (close (bound (lam A b)) B)))) T s.more = s.then_runs in
    let p : c ≡ suc o.0 = o.1 in
    let q : o.0 ≡ s.first + (s.second + s.more) = s.paid in
    let x : s.more ≡ r.1 + r.2 = r.5 in
    let z : r.2 ≡ 0 = r.4.1 in
    record {
      between = s.between;
      level = s.level;
      type = r.0;
      first = s.first;
      second = s.second;
      third = r.1;
      typed = s.typed;
      reduced = s.reduced;
      inside = r.3;
      is = r.4.0;
      paid = omega (arith, p, q, x, z);
    }

pub lam_domain : (w : Place) (A b : Tree) (most : ℕ) → IsAnsweredWithin w (infer (lam A b)) most → IsSortedWithin w A most
lam_domain w A b most h =
    let r : LamRun w A b h.0 h.1 = lam_run w A b h.0 h.1 h.2 in
    let p : h.1 ≡ suc (r.first + (r.second + r.third)) = r.paid in
    record { between = r.between; level = r.level; first = r.first; second = r.second; typed = r.typed; reduced = r.reduced; first_within = omega (arith, p, h.3); second_within = omega (arith, p, h.3) }

pub lam_inside : (w : Place) (A b : Tree) (most : ℕ) → IsAnsweredWithin w (infer (lam A b)) most → IsAnsweredWithin w (infer (opened b (lam_local A b))) most
lam_inside w A b most h =
    let r : LamRun w A b h.0 h.1 = lam_run w A b h.0 h.1 h.2 in
    let p : h.1 ≡ suc (r.first + (r.second + r.third)) = r.paid in
    (r.type, r.third, r.inside, omega (arith, p, h.3))

closed_within_bound : (A b B : Tree) (k : ℕ) → bound (lam A b) ≤ k → IsWellFormed B → LocalsWithin (opened b (local k A)) B → bound (pi A (close k B)) ≤ k
unfolding bound
closed_within_bound A b B k h f w = omega (arith, closed_bound k A b B (omega arith) (omega arith) f w)

lam_holds : (w : Place) (A b B S : Tree) (l : Level) → IsWellFormed (lam A b) → IsWellFormed (pi A (close (bound (lam A b)) B)) → IsShapedAnswer (infer (opened b (lam_local A b))) B →
    StepHolds w (typing (lam_rule (lam_local A b)) (lam A b) (pi A (close (bound (lam A b)) B)) (types A S ∷ reduces S (sort l) ∷ types (opened b (lam_local A b)) B ∷ []))
lam_holds w A b B S l f g s =
    let k : ℕ = bound (lam A b) in
    let fresh : Fresh k (lam A b ∷ pi A (close k B) ∷ []) = (omega arith, (closed_within_bound A b B k (omega arith) s.0.1 s.1, tt)) in
    let e : opened (close k B) (local k A) ≡ B = closed_reopens k A b B (bound_left A b k (omega arith)) (bound_right A b k (omega arith)) s.0.1 s.1 in
    subst (λ z. StepHolds w (typing (lam_rule (lam_local A b)) (lam A b) (pi A (close k B)) (types A S ∷ reduces S (sort l) ∷ types (opened b (lam_local A b)) z ∷ []))) e
    ((typing_steps w).lams A b (close k B) S l k fresh f g)

pub lam_typed : (w : Place) → WellStated w → (A b S B : Tree) (l : Level) (most : ℕ) → IsWellFormed (lam A b) → IsAnsweredWithin w (infer (lam A b)) most → IsType w A S → IsForm w S (sort l) → IsType w (opened b (lam_local A b)) B →
    IsTypedRow w (lam_rule (lam_local A b)) (lam A b) (pi A (close (bound (lam A b)) B)) (infer A ∷ whnf S ∷ infer (opened b (lam_local A b)) ∷ []) (types A S ∷ reduces S (sort l) ∷ types (opened b (lam_local A b)) B ∷ [])
lam_typed w ok A b S B l most f h t s u =
    let k : ℕ = bound (lam A b) in
    let r : LamRun w A b h.0 h.1 = lam_run w A b h.0 h.1 h.2 in
    let p : h.1 ≡ suc (r.first + (r.second + r.third)) = r.paid in
    let x : AreOne S r.between t.cost r.first = one_answer w (infer A) S r.between t.cost r.first t.answered r.typed in
    let y : AreOne (sort l) (sort r.level) s.cost r.second = one_answer w (whnf S) (sort l) (sort r.level) s.cost r.second s.answered (subst (λ z. IsAnswered w (whnf z) (sort r.level) r.second) (sym x.answer) r.reduced) in
    let z : AreOne B r.type u.cost r.third = one_answer w (infer (opened b (lam_local A b))) B r.type u.cost r.third u.answered r.inside in
    let a : IsAnswered w (infer (lam A b)) (pi A (close k B)) h.1 = subst (λ v. IsAnswered w (infer (lam A b)) v h.1) (sym (ap (λ v. pi A (close k v)) z.answer ∙ r.is)) h.2 in
    let fb : IsWellFormed (opened b (lam_local A b)) = body_fine k A b f.0 f.1 (bound_left A b k (omega arith)) in
    let sS : IsShapedAnswer (infer A) S = shaped_answer w ok (infer A) S t.cost f.0 t.answered in
    let sB : IsShapedAnswer (infer (opened b (lam_local A b))) B = shaped_answer w ok (infer (opened b (lam_local A b))) B u.cost fb u.answered in
    let sT : IsShapedAnswer (infer (lam A b)) (pi A (close k B)) = shaped_answer w ok (infer (lam A b)) (pi A (close k B)) h.1 f a in
    let e₁ : t.cost ≡ r.first = x.cost in
    let e₂ : s.cost ≡ r.second = y.cost in
    let e₃ : u.cost ≡ r.third = z.cost in
    record {
      cost = h.1;
      answered = a;
      spent = t.cost + (s.cost + (u.cost + 0));
      asked = a_claim (infer A) S t.cost f.0 t.answered tt (a_claim (whnf S) (sort l) s.cost sS.0.1 s.answered tt (a_claim (infer (opened b (lam_local A b))) B u.cost fb u.answered tt no_claim));
      less = omega (arith, p, e₁, e₂, e₃);
      holds = lam_holds w A b B S l f sT.0.1 sB;
    }
