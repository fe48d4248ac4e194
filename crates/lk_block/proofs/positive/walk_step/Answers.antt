use Rattle.std.proofs.Common.{◌<◌, subst, sym, arith}
use Rattle.std.proofs.lemmas.Result.{err_from_is_err_and}
use Rattle.lk_tree.specs.Tree.{Tree}
use Rattle.lk_questions.specs.Query.{whnf}
use Rattle.lk_questions.specs.Program.{asked}
use Rattle.lk_store.specs.Contents.{tree_at}
use Rattle.lk_inductive.specs.Block.{Frame}
use Rattle.lk_declaration.specs.Courses.{ComesTo, Settles}
use Rattle.lk_block.specs.Frames.{frame_at}
use Rattle.lk_block.specs.Positive.{form_step, walk_step, step_at}
use Rattle.lk_declaration.proofs.Running.{halts_first, settles_on}
use Rattle.lk_block.proofs.Frames.{frame-steady}
use Rattle.lk_block.proofs.OpenedMentions.{known_stays, known_in_stays}
use Rattle.lk_block.proofs.Walks.{form_paid, whichever}
use Rattle.lk_block.proofs.positive.walk_step.Goals as goal

pub returns-clause-paid : goal.returns-clause-paid
returns-clause-paid g c =
    let before = g.A.Terms.contents c.args.asks.now in
    let between = g.A.Terms.contents c.form_of.new.asks in
    let paid = form_paid (g.A.Asks.standing c.args.asks.now) (tree_at before c.args.e) (g.A.Asks.left c.args.asks.now) (g.A.Asks.left c.form_of.new.asks) (tree_at between c.in_ok-form.form) c.in_ok-form.ensures.outcome in
    whichever c.form_step.result (g.A.Asks.left c.form_step.new.asks < g.A.Asks.left c.args.asks.now) (let same = c.form_step.ensures.left in omega arith)

pub returns-clause-outcome : goal.returns-clause-outcome
returns-clause-outcome g c =
    let before = g.A.Terms.contents c.args.asks.now in
    let between = g.A.Terms.contents c.form_of.new.asks in
    let after = g.A.Terms.contents c.form_step.new.asks in
    let F = frame_at before c.args.frame.now in
    subst (λ n. ComesTo (g.A.Asks.standing c.args.asks.now) (walk_step F c.args.number (tree_at before c.args.e)) (g.A.Asks.left c.args.asks.now) (step_at after) n c.form_step.result) (sym c.form_step.ensures.left)
    (settles_on (g.A.Asks.standing c.args.asks.now) (asked (whnf (tree_at before c.args.e))) (λ (R : Tree). form_step F c.args.number R) (g.A.Asks.left c.args.asks.now) (g.A.Asks.left c.form_of.new.asks)
    (tree_at between c.in_ok-form.form) (step_at after) c.form_step.result c.in_ok-form.ensures.outcome
    (subst (λ (G : Frame). Settles (form_step G c.args.number (tree_at between c.in_ok-form.form)) (step_at after) c.form_step.result) (frame-steady before between c.args.frame.now c.in_ok-form.ensures.keeps c.requires.frame_in) c.form_step.ensures.step))

pub returns-in_err-form-clause-outcome : goal.returns-in_err-form-clause-outcome
returns-in_err-form-clause-outcome g c =
    let before = g.A.Terms.contents c.args.asks.now in
    let p = err_from_is_err_and c.from_residual.result c.from_residual.ensures.1 in
    rw (p.1, p.2) (halts_first (g.A.Asks.standing c.args.asks.now) (asked (whnf (tree_at before c.args.e))) (λ (R : Tree). form_step (frame_at before c.args.frame.now) c.args.number R)
    (g.A.Asks.left c.args.asks.now) c.in_err-form.field-0.0 c.in_err-form.ensures.outcome)

pub form_step-requires-clause-known : goal.form_step-requires-clause-known
form_step-requires-clause-known g c =
    known_stays (g.A.Terms.contents c.args.asks.now) (g.A.Terms.contents c.form_of.new.asks) c.args.frame.now.names c.args.known c.in_ok-form.ensures.keeps c.requires.frame_in.names_in c.requires.known_in c.requires.known

pub form_step-requires-clause-known_in : goal.form_step-requires-clause-known_in
form_step-requires-clause-known_in g c = known_in_stays (g.A.Terms.contents c.args.asks.now) (g.A.Terms.contents c.form_of.new.asks) c.args.known c.in_ok-form.ensures.keeps c.requires.known_in
