-- The row of a let.
use Rattle.std.proofs.Common.{ℕ, suc, ◌≡◌, ◌+◌, true, [], ◌∷◌, refl, subst, sym, arith}
use Rattle.lk_tree.specs.Tree.{Tree, Level, sort, let_in}
use Rattle.lk_tree.specs.Bind.{opened}
use Rattle.lk_tree.specs.WellFormed.{IsWellFormed}
use Rattle.lk_tree.specs.declared.rule.Rule.TheVariants.{LetType}
use Rattle.lk_tree.proofs.Binding.{open_fine}
use Rattle.lk_rulebook.specs.Place.{Place}
use Rattle.lk_rulebook.specs.WellStated.{WellStated}
use Rattle.lk_rulebook.specs.Claims.{types, reduces, equals}
use Rattle.lk_questions.specs.Query.{infer, whnf, same}
use Rattle.lk_questions.specs.Program.{Program, ask, asked}
use Rattle.lk_questions.specs.Steps.{given}
use Rattle.lk_written.specs.Line.{let_rule}
use Rattle.lk_step.specs.Rows.{IsAnswered, no_claim, a_claim}
use Rattle.lk_step.specs.Runs.{Runs, IsOpened, AreOne}
use Rattle.lk_step.specs.Shaped.{IsShapedAnswer}
use Rattle.lk_step.specs.Told.{IsAnsweredWithin, IsType, IsForm}
use Rattle.lk_step.proofs.Runs.{opened_so, one_answer}
use Rattle.lk_step.proofs.Shapes.{shaped_answer}
use Rattle.lk_step.proofs.TypingSteps.{typing_steps}
use Rattle.lk_derive_types.specs.Parts.{IsSortedWithin}
use Rattle.lk_derive_types.specs.TypeRows.{IsTypedRow}
use Rattle.lk_derive_types.proofs.RunParts.{SortRun, sort_run, given_run}

-- what a run of the row says
pub record LetRun (w : Place) (A v b T : Tree) (c : ℕ) : Type 0 where
  pub between : Tree
  pub level : Level
  pub value_type : Tree
  pub first : ℕ
  pub second : ℕ
  pub third : ℕ
  pub fourth : ℕ
  pub fifth : ℕ
  pub typed : IsAnswered w (infer A) between first
  pub reduced : IsAnswered w (whnf between) (sort level) second
  pub value_typed : IsAnswered w (infer v) value_type third
  pub equal : IsAnswered w (same value_type A) true fourth
  pub inside : IsAnswered w (infer (opened b v)) T fifth
  pub paid : c ≡ suc (first + (second + (third + (fourth + fifth))))

abbrev let_rest : Tree → Tree → Tree → Program Tree
let_rest A v b = ask (infer v) (λ V. ask (same V A) (λ equal. given equal LetType (asked (infer (opened b v)))))

pub let_run : (w : Place) (A v b T : Tree) (c : ℕ) → IsAnswered w (infer (let_in A v b)) T c → LetRun w A v b T c
let_run w A v b T c h =
    let o : IsOpened w (infer (let_in A v b)) T c = opened_so w (infer (let_in A v b)) T c h in
    let s : SortRun w A (λ l. let_rest A v b) T o.0 = sort_run w A (λ l. let_rest A v b) T o.0 o.2 in
    let r : Runs w (let_rest A v b) T s.more = s.then_runs in
    let g : (r.4.0 ≡ true) × Runs w (asked (infer (opened b v))) T r.4.2 = given_run w r.4.0 LetType (asked (infer (opened b v))) T r.4.2 r.4.4 in
    let p : c ≡ suc o.0 = o.1 in
    let q : o.0 ≡ s.first + (s.second + s.more) = s.paid in
    let x : s.more ≡ r.1 + r.2 = r.5 in
    let y : r.2 ≡ r.4.1 + r.4.2 = r.4.5 in
    let z : r.4.2 ≡ g.1.1 + g.1.2 = g.1.5 in
    let n : g.1.2 ≡ 0 = g.1.4.1 in
    record {
      between = s.between;
      level = s.level;
      value_type = r.0;
      first = s.first;
      second = s.second;
      third = r.1;
      fourth = r.4.1;
      fifth = g.1.1;
      typed = s.typed;
      reduced = s.reduced;
      value_typed = r.3;
      equal = subst (λ y. IsAnswered w (same r.0 A) y r.4.1) g.0 r.4.3;
      inside = subst (λ y. IsAnswered w (infer (opened b v)) y g.1.1) g.1.4.0 g.1.3;
      paid = omega (arith, p, q, x, y, z, n);
    }

pub let_stated : (w : Place) (A v b : Tree) (most : ℕ) → IsAnsweredWithin w (infer (let_in A v b)) most → IsSortedWithin w A most
let_stated w A v b most h =
    let r : LetRun w A v b h.0 h.1 = let_run w A v b h.0 h.1 h.2 in
    let p : h.1 ≡ suc (r.first + (r.second + (r.third + (r.fourth + r.fifth)))) = r.paid in
    record { between = r.between; level = r.level; first = r.first; second = r.second; typed = r.typed; reduced = r.reduced; first_within = omega (arith, p, h.3); second_within = omega (arith, p, h.3) }

pub let_value : (w : Place) (A v b : Tree) (most : ℕ) → IsAnsweredWithin w (infer (let_in A v b)) most → IsAnsweredWithin w (infer v) most
let_value w A v b most h =
    let r : LetRun w A v b h.0 h.1 = let_run w A v b h.0 h.1 h.2 in
    let p : h.1 ≡ suc (r.first + (r.second + (r.third + (r.fourth + r.fifth)))) = r.paid in
    (r.value_type, r.third, r.value_typed, omega (arith, p, h.3))

pub let_inside : (w : Place) (A v b : Tree) (most : ℕ) → IsAnsweredWithin w (infer (let_in A v b)) most → IsAnsweredWithin w (infer (opened b v)) most
let_inside w A v b most h =
    let r : LetRun w A v b h.0 h.1 = let_run w A v b h.0 h.1 h.2 in
    let p : h.1 ≡ suc (r.first + (r.second + (r.third + (r.fourth + r.fifth)))) = r.paid in
    (h.0, r.fifth, r.inside, omega (arith, p, h.3))

pub let_typed : (w : Place) → WellStated w → (A v b S V B : Tree) (l : Level) (most : ℕ) → IsWellFormed (let_in A v b) → IsAnsweredWithin w (infer (let_in A v b)) most → IsType w A S → IsForm w S (sort l) → IsType w v V → IsType w (opened b v) B →
    IsTypedRow w let_rule (let_in A v b) B (infer A ∷ whnf S ∷ infer v ∷ same V A ∷ infer (opened b v) ∷ []) (types A S ∷ reduces S (sort l) ∷ types v V ∷ equals V A ∷ types (opened b v) B ∷ [])
let_typed w ok A v b S V B l most f h t s i j =
    let r : LetRun w A v b h.0 h.1 = let_run w A v b h.0 h.1 h.2 in
    let p : h.1 ≡ suc (r.first + (r.second + (r.third + (r.fourth + r.fifth)))) = r.paid in
    let o₁ : AreOne S r.between t.cost r.first = one_answer w (infer A) S r.between t.cost r.first t.answered r.typed in
    let o₂ : AreOne (sort l) (sort r.level) s.cost r.second = one_answer w (whnf S) (sort l) (sort r.level) s.cost r.second s.answered (subst (λ z. IsAnswered w (whnf z) (sort r.level) r.second) (sym o₁.answer) r.reduced) in
    let o₃ : AreOne V r.value_type i.cost r.third = one_answer w (infer v) V r.value_type i.cost r.third i.answered r.value_typed in
    let o₄ : AreOne B h.0 j.cost r.fifth = one_answer w (infer (opened b v)) B h.0 j.cost r.fifth j.answered r.inside in
    let equal : IsAnswered w (same V A) true r.fourth = subst (λ z. IsAnswered w (same z A) true r.fourth) (sym o₃.answer) r.equal in
    let a : IsAnswered w (infer (let_in A v b)) B h.1 = subst (λ z. IsAnswered w (infer (let_in A v b)) z h.1) (sym o₄.answer) h.2 in
    let fb : IsWellFormed (opened b v) = open_fine 0 v b f.2 f.1 in
    let sS : IsShapedAnswer (infer A) S = shaped_answer w ok (infer A) S t.cost f.0 t.answered in
    let sV : IsShapedAnswer (infer v) V = shaped_answer w ok (infer v) V i.cost f.1 i.answered in
    let sB : IsShapedAnswer (infer (opened b v)) B = shaped_answer w ok (infer (opened b v)) B j.cost fb j.answered in
    let e₁ : t.cost ≡ r.first = o₁.cost in
    let e₂ : s.cost ≡ r.second = o₂.cost in
    let e₃ : i.cost ≡ r.third = o₃.cost in
    let e₄ : j.cost ≡ r.fifth = o₄.cost in
    record {
      cost = h.1;
      answered = a;
      spent = t.cost + (s.cost + (i.cost + (r.fourth + (j.cost + 0))));
      asked = a_claim (infer A) S t.cost f.0 t.answered tt (a_claim (whnf S) (sort l) s.cost sS.0.1 s.answered tt (a_claim (infer v) V i.cost f.1 i.answered tt (a_claim (same V A) true r.fourth (sV.0.1, f.0) equal refl (a_claim (infer (opened b v)) B j.cost fb j.answered tt no_claim))));
      less = omega (arith, p, e₁, e₂, e₃, e₄);
      holds = (typing_steps w).lets A v b V B S l f sB.0.1;
    }
