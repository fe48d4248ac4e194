-- Runs of a projection, along the parameters of its structure.
use Rattle.std.proofs.Common.{ℕ, suc, ◌≡◌, ◌≤◌, ◌+◌, Bool, List, [], ◌∷◌, ◌++◌, refl, subst, sym, ap, arith}
use Rattle.lk_tree.specs.Tree.{Name, Tree, pi, proj}
use Rattle.lk_tree.specs.Bind.{opened}
use Rattle.lk_tree.specs.WellFormed.{IsWellFormed}
use Rattle.lk_tree.specs.declared.rule.Rule.TheVariants.{BadProjection}
use Rattle.lk_tree.proofs.Binding.{open_fine}
use Rattle.lk_rulebook.specs.Place.{Place}
use Rattle.lk_rulebook.specs.WellStated.{WellStated}
use Rattle.lk_rulebook.specs.Claims.{Claim, reduces}
use Rattle.lk_questions.specs.Query.{Query, whnf}
use Rattle.lk_questions.specs.Program.{◌>>=◌}
use Rattle.lk_questions.specs.Steps.{as_pi}
use Rattle.lk_questions.specs.Projections.{past_parameters, field_type}
use Rattle.lk_written.specs.Line.{proj_rule}
use Rattle.lk_step.specs.Rows.{IsAnswered, a_claim}
use Rattle.lk_step.specs.Runs.{Runs, AreOne}
use Rattle.lk_step.specs.Shaped.{IsShapedAnswer}
use Rattle.lk_step.specs.Told.{IsForm}
use Rattle.lk_step.specs.Typing.{parameter}
use Rattle.lk_step.proofs.Runs.{one_answer}
use Rattle.lk_step.proofs.Shapes.{shaped_answer}
use Rattle.lk_derive_types.specs.Parts.{IsPiWithin}
use Rattle.lk_derive_types.specs.Projections.{projected, ParametersFinish}
use Rattle.lk_derive_types.specs.TypeRows.{IsTypedRow}
use Rattle.lk_derive_types.proofs.SpineRuns.{pi_right}

-- what a run says of the first parameter
pub record ParameterRun (w : Place) (S : Name) (i : ℕ) (s : Tree) (q : Bool) (bs : List Tree) (n : ℕ) (F b T : Tree) (m : ℕ) : Type 0 where
  pub domain : Tree
  pub body : Tree
  pub first : ℕ
  pub left : ℕ
  pub reduced : IsAnswered w (whnf F) (pi domain body) first
  pub then_runs : Runs w (projected S i s q bs n (opened body b)) T left
  pub paid : m ≡ first + left

pub parameter_run : (w : Place) (S : Name) (i : ℕ) (s : Tree) (q : Bool) (bs : List Tree) (n : ℕ) (F b T : Tree) (m : ℕ) → Runs w (projected S i s q (b ∷ bs) (suc n) F) T m → ParameterRun w S i s q bs n F b T m
parameter_run w S i s q bs n F b T m h = go h.0 h.3 h.4
  where
    go : (u : Tree) → IsAnswered w (whnf F) u h.1 → Runs w ((as_pi BadProjection u >>= (λ p. past_parameters bs n (opened p.1 b))) >>= field_type S s q 0 i) T h.2 → ParameterRun w S i s q bs n F b T m
    go (pi A B) a r = record { domain = A; body = B; first = h.1; left = h.2; reduced = a; then_runs = r; paid = h.5 }
    go _ a r = absurd r

pub parameter_within : (w : Place) (S : Name) (i : ℕ) (s : Tree) (q : Bool) (bs : List Tree) (n : ℕ) (F b T : Tree) (m most : ℕ) → Runs w (projected S i s q (b ∷ bs) (suc n) F) T m → m ≤ most → IsPiWithin w F most
parameter_within w S i s q bs n F b T m most h l =
    let r : ParameterRun w S i s q bs n F b T m = parameter_run w S i s q bs n F b T m h in
    let p : m ≡ r.first + r.left = r.paid in
    record { domain = r.domain; body = r.body; cost = r.first; reduced = r.reduced; within = omega (arith, p, l) }

-- the first parameter is behind
pub record ParameterNext (w : Place) (S : Name) (i : ℕ) (s : Tree) (q : Bool) (bs : List Tree) (n : ℕ) (F b A B T : Tree) (m : ℕ) (qs : List Query) (ks : List Claim) : Type 0 where
  pub left : ℕ
  pub less : left ≤ m
  pub fine : IsWellFormed (opened B b)
  pub runs : Runs w (projected S i s q bs n (opened B b)) T left
  pub finish : ParametersFinish w S i s q bs n (opened B b) T left (qs ++ (whnf F ∷ [])) (ks ++ (reduces F (pi A B) ∷ []))

pub one_more : {Y : Type 0} (ys : List Y) (a : Y) (zs : List Y) → ys ++ (a ∷ zs) ≡ (ys ++ (a ∷ [])) ++ zs
one_more [] a zs = refl
one_more (y ∷ ys) a zs = ap (λ l. y ∷ l) (one_more ys a zs)

pub parameter_next : (w : Place) → WellStated w → (S : Name) (i : ℕ) (s : Tree) (q : Bool) (bs : List Tree) (n : ℕ) (F b A B T : Tree) (m : ℕ) (qs : List Query) (ks : List Claim) → IsWellFormed F → IsWellFormed b →
    Runs w (projected S i s q (b ∷ bs) (suc n) F) T m → IsForm w F (pi A B) → ParametersFinish w S i s q (b ∷ bs) (suc n) F T m qs ks → ParameterNext w S i s q bs n F b A B T m qs ks
parameter_next w ok S i s q bs n F b A B T m qs ks fF fb h t f =
    let r : ParameterRun w S i s q bs n F b T m = parameter_run w S i s q bs n F b T m h in
    let p : m ≡ r.first + r.left = r.paid in
    let o : AreOne (pi A B) (pi r.domain r.body) t.cost r.first = one_answer w (whnf F) (pi A B) (pi r.domain r.body) t.cost r.first t.answered r.reduced in
    let dB : B ≡ r.body = pi_right A B r.domain r.body o.answer in
    let sP : IsShapedAnswer (whnf F) (pi A B) = shaped_answer w ok (whnf F) (pi A B) t.cost fF t.answered in
    let e : t.cost ≡ r.first = o.cost in
    record {
      left = r.left;
      less = omega (arith, p);
      fine = open_fine 0 b B sP.0.1.1 fb;
      runs = subst (λ z. Runs w (projected S i s q bs n (opened z b)) T r.left) (sym dB) r.then_runs;
      finish = λ us js ds R k a g shaped c l.
          subst (λ z. IsTypedRow w proj_rule (proj S i s) T z ((ks ++ (reduces F (pi A B) ∷ [])) ++ js)) (one_more qs (whnf F) us)
          (subst (λ z. IsTypedRow w proj_rule (proj S i s) T (qs ++ (whnf F ∷ us)) z) (one_more ks (reduces F (pi A B)) js)
          (f (whnf F ∷ us) (reduces F (pi A B) ∷ js) ds R (t.cost + k) (parameter a) g (sP.0, shaped) (a_claim (whnf F) (pi A B) t.cost fF t.answered tt c) (omega (arith, p, e, l))));
    }
