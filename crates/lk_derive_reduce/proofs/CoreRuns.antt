-- What a run of Core says.
use Rattle.std.proofs.Common.{ℕ, suc, ◌≡◌, ◌<◌, ◌≤◌, ◌+◌, Bool, true, false, List, [], ◌∷◌, length, refl, sym, subst, ◌∙◌, arith, if◌then◌else◌, length-append}
use Rattle.lk_tree.specs.Tree.{Tree, app, lam, let_in, proj}
use Rattle.lk_tree.specs.Bind.{opened}
use Rattle.lk_tree.specs.Spine.{apply, head, args}
use Rattle.lk_tree.specs.WellFormed.{IsWellFormed, AllWellFormed}
use Rattle.lk_tree.proofs.Binding.{open_fine}
use Rattle.lk_tree.proofs.Spines.{fine_apply, well_formed_of_apply}
use Rattle.lk_tree.proofs.Within.{apply_head_args}
use Rattle.lk_rulebook.specs.Place.{Place}
use Rattle.lk_questions.specs.Query.{core}
use Rattle.lk_questions.specs.Program.{Program, done, asked, ◌>>=◌}
use Rattle.lk_questions.specs.Steps.{is_same_tree}
use Rattle.lk_questions.specs.Core.{lambdas, beta, core_applied, core_steps}
use Rattle.lk_written.specs.Line.{zeta_rule, beta_rule, head_rule}
use Rattle.lk_rulebook.specs.Claims.{reduces}
use Rattle.lk_step.specs.Steps.{reduction, StepHolds}
use Rattle.lk_step.specs.Rows.{IsAnswered, IsClaim}
use Rattle.lk_step.specs.Runs.{Runs, IsOpened}
use Rattle.lk_step.specs.Told.{IsAnsweredWithin}
use Rattle.lk_step.specs.Reducing.{beta_reduct}
use Rattle.lk_step.proofs.Runs.{opened_so, runs_asked}
use Rattle.lk_step.proofs.ReductionSteps.{reduction_steps}
use Rattle.lk_step.specs.Parts.{IsNext}
use Rattle.lk_derive_reduce.specs.Forms.{IsApp, IsLam, IsStuck, IsLetOf, Opens, HeadRun}
use Rattle.lk_step.proofs.PartsIn.{apart}

-- where Core of e is Core of r, the one more, r may be asked for
next_opens : (w : Place) (most : ℕ) (e r u : Tree) (c : ℕ) → IsAnswered w (core e) u c → c ≤ most → (n : ℕ) → c ≡ suc n → IsAnswered w (core r) u n → IsNext w e r × IsAnsweredWithin w (core r) most
next_opens w most e r u c h lt n paid k = (record { value = u; cost = n; more = c; answered = h; next = k; less = omega arith }, (u, n, k, omega arith))

pub let_opens : (w : Place) (most : ℕ) (e v b : Tree) → IsLetOf e v b → IsClaim w (core e) most → Opens w most zeta_rule e (opened b v)
let_opens w most e v b l claim = subst (λ z. IsClaim w (core z) most → Opens w most zeta_rule z (opened b v)) (sym l.is) (λ k. go l.domain k) claim
  where
    go : (A : Tree) → IsClaim w (core (let_in A v b)) most → Opens w most zeta_rule (let_in A v b) (opened b v)
    go A k =
        let f : IsWellFormed (let_in A v b) = k.askable in
        let fr : IsWellFormed (opened b v) = open_fine 0 v b f.2 f.1 in
        let o : IsOpened w (core (let_in A v b)) k.answer k.cost = opened_so w (core (let_in A v b)) k.answer k.cost k.answered in
        let n : IsNext w (let_in A v b) (opened b v) × IsAnsweredWithin w (core (opened b v)) most =
        next_opens w most (let_in A v b) (opened b v) k.answer k.cost k.answered k.within o.0 o.1 (runs_asked w (core (opened b v)) k.answer o.0 o.2) in
        record { fine = fr; holds = (reduction_steps w).zeta A v b [] f fr; next = n.0; within = n.1 }

pub args_some : (e : Tree) → IsApp e → 0 < length (args e)
unfolding args
args_some (app f a) h = omega (arith, length-append (args f) (a ∷ []))
args_some e h = absurd h

pub app_steps : (e : Tree) → IsApp e → core_steps e ≡ core_applied e (head e) (args e)
unfolding head args
app_steps (app f a) h = refl
app_steps e h = absurd h

lam_applied : (e : Tree) (xs : List Tree) (h : Tree) → IsLam h → core_applied e h xs ≡ asked (core (beta_reduct h xs))
lam_applied e xs (lam A b) l = refl
lam_applied e xs h l = absurd l

pub lam_steps : (e : Tree) → IsApp e → IsLam (head e) → core_steps e ≡ asked (core (beta_reduct (head e) (args e)))
lam_steps e h l = app_steps e h ∙ lam_applied e (args e) (head e) l

fine_beta : (n : ℕ) (h : Tree) (xs : List Tree) → IsWellFormed (apply h xs) → IsWellFormed (beta n h xs)
fine_beta (suc n) (lam A b) (a ∷ rest) f =
    let r : IsWellFormed (app (lam A b) a) × AllWellFormed rest = well_formed_of_apply (app (lam A b) a) rest f in
    fine_beta n (opened b a) rest (fine_apply (opened b a) rest (open_fine 0 a b r.0.0.1 r.0.1) r.1)
fine_beta _ h rest f = f

beta_holds : (w : Place) (h : Tree) (xs : List Tree) → IsLam h → 0 < length xs → IsWellFormed (apply h xs) → IsWellFormed (beta_reduct h xs) → StepHolds w (reduction beta_rule (apply h xs) (beta_reduct h xs) [])
beta_holds w (lam A b) (x ∷ xs) l lt f fr = (reduction_steps w).beta A b x xs f fr
beta_holds w (lam A b) [] l lt f fr = absurd (omega arith)
beta_holds w h xs l lt f fr = absurd l

pub beta_opens : (w : Place) (most : ℕ) (e : Tree) → IsApp e → IsLam (head e) → IsClaim w (core e) most → Opens w most beta_rule e (beta_reduct (head e) (args e))
beta_opens w most e a l k =
    let r : Tree = beta_reduct (head e) (args e) in
    let eq : apply (head e) (args e) ≡ e = apply_head_args e in
    let f : IsWellFormed (apply (head e) (args e)) = subst IsWellFormed (sym eq) k.askable in
    let fr : IsWellFormed r = fine_beta (lambdas (head e)) (head e) (args e) f in
    let o : IsOpened w (core e) k.answer k.cost = opened_so w (core e) k.answer k.cost k.answered in
    let run : Runs w (asked (core r)) k.answer o.0 = subst (λ (p : Program Tree). Runs w p k.answer o.0) (lam_steps e a l) o.2 in
    let n : IsNext w e r × IsAnsweredWithin w (core r) most = next_opens w most e r k.answer k.cost k.answered k.within o.0 o.1 (runs_asked w (core r) k.answer o.0 run) in
    let holds : StepHolds w (reduction beta_rule (apply (head e) (args e)) r []) = beta_holds w (head e) (args e) l (args_some e a) f fr in
    record { fine = fr; holds = subst (λ z. StepHolds w (reduction beta_rule z r [])) eq holds; next = n.0; within = n.1 }

-- Core of a head that is stuck, and what comes after it
abbrev after_head : Tree → Tree → List Tree → Tree → Program Tree
after_head e h xs h' = if is_same_tree h' h then done e else asked (core (apply h' xs))

stuck_applied : (e : Tree) (xs : List Tree) (h : Tree) → IsStuck h → core_applied e h xs ≡ (asked (core h) >>= after_head e h xs)
stuck_applied e xs (let_in A v b) l = refl
stuck_applied e xs (proj S i s) l = refl
stuck_applied e xs h l = absurd l

after_same : (w : Place) (e h : Tree) (xs : List Tree) (h' v : Tree) (n : ℕ) → Runs w (after_head e h xs h') v n → is_same_tree h' h ≡ true → v ≡ e
after_same w e h xs h' v n r t = go (is_same_tree h' h) t r
  where
    go : (b : Bool) → b ≡ true → Runs w (if b then done e else asked (core (apply h' xs))) v n → v ≡ e
    go true t r = sym r.0
    go false t r = absurd cc

after_other : (w : Place) (e h : Tree) (xs : List Tree) (h' v : Tree) (n : ℕ) → Runs w (after_head e h xs h') v n → is_same_tree h' h ≡ false → IsAnswered w (core (apply h' xs)) v n
after_other w e h xs h' v n r t = go (is_same_tree h' h) t r
  where
    go : (b : Bool) → b ≡ false → Runs w (if b then done e else asked (core (apply h' xs))) v n → IsAnswered w (core (apply h' xs)) v n
    go false t r = runs_asked w (core (apply h' xs)) v n r
    go true t r = absurd cc

pub head_run : (w : Place) (most : ℕ) (e : Tree) → IsApp e → IsStuck (head e) → IsClaim w (core e) most → HeadRun w most e
head_run w most e a l k =
    let o : IsOpened w (core e) k.answer k.cost = opened_so w (core e) k.answer k.cost k.answered in
    let paid : k.cost ≡ suc o.0 = o.1 in
    let run : Runs w (asked (core (head e)) >>= after_head e (head e) (args e)) k.answer o.0 =
    subst (λ (p : Program Tree). Runs w p k.answer o.0) (app_steps e a ∙ stuck_applied e (args e) (head e) l) o.2 in
    let spent : o.0 ≡ run.1 + run.2 = run.5 in
    record {
      value = k.answer;
      cost = k.cost;
      answered = k.answered;
      within = k.within;
      form = run.0;
      first = run.1;
      headed = run.3;
      second = run.2;
      paid = omega arith;
      stays = after_same w e (head e) (args e) run.0 k.answer run.2 run.4;
      moves = after_other w e (head e) (args e) run.0 k.answer run.2 run.4;
    }

-- the step of a head
step_at_head : (w : Place) (h f : Tree) (xs : List Tree) → 0 < length xs → is_same_tree f h ≡ false → IsWellFormed (apply h xs) → IsWellFormed (apply f xs) → StepHolds w (reduction head_rule (apply h xs) (apply f xs) (reduces h f ∷ []))
step_at_head w h f (x ∷ xs) lt t fh ff = (reduction_steps w).head h f x xs (λ s. apart f h t (sym s)) fh ff
step_at_head w h f [] lt t fh ff = absurd (omega arith)

pub head_holds : (w : Place) (e f : Tree) → IsApp e → is_same_tree f (head e) ≡ false → IsWellFormed e → IsWellFormed (apply f (args e)) → StepHolds w (reduction head_rule e (apply f (args e)) (reduces (head e) f ∷ []))
head_holds w e f a t fe ff =
    let eq : apply (head e) (args e) ≡ e = apply_head_args e in
    subst (λ z. StepHolds w (reduction head_rule z (apply f (args e)) (reduces (head e) f ∷ []))) eq
    (step_at_head w (head e) f (args e) (args_some e a) t (subst IsWellFormed (sym eq) fe) ff)
