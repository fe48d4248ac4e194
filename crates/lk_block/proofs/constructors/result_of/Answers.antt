use Rattle.std.proofs.Common.{List, map, sym, subst}
use Rattle.std.specs.Prelude.{Vec, ℕ}
use Rattle.std.specs.declared.alloc.Global.{Global}
use Rattle.std.proofs.lemmas.Result.{err_from_is_err_and}
use Rattle.lk_tree.specs.Tree.{Tree}
use Rattle.lk_tree.specs.Spine.{head, args}
use Rattle.lk_questions.specs.Query.{whnf}
use Rattle.lk_questions.specs.Program.{asked}
use Rattle.lk_inductive.specs.BlockSteps.{as_member, own_indices}
use Rattle.lk_store.specs.Contents.{name_at, tree_at}
use Rattle.lk_declaration.specs.Courses.{ComesTo, Settles}
use Rattle.lk_block.specs.Frames.{frame_at}
use Rattle.lk_block.specs.Constructors.{result_form}
use Rattle.lk_declaration.proofs.Running.{halts_first, settles_on}
use Rattle.lk_block.proofs.Frames.{frame-steady}
use Rattle.lk_block.proofs.EachConstructor.{own_kept}
use Rattle.lk_block.proofs.constructors.result_of.Goals as goal

pub returns-clause-outcome : goal.returns-clause-outcome
returns-clause-outcome g c =
    let before = g.A.Terms.contents c.args.asks.now in
    let between = g.A.Terms.contents c.form_of.new.asks in
    let after = g.A.Terms.contents c.indices_in.new.asks in
    let F = frame_at before c.args.frame.now in
    let T = name_at before c.args.parent in
    let R = tree_at between c.in_ok-form.form in
    let value : Vec ℕ Global → List Tree = λ v. map (tree_at after) v.items in
    subst (λ n. ComesTo (g.A.Asks.standing c.args.asks.now) (result_form F T (tree_at before c.args.e)) (g.A.Asks.left c.args.asks.now) value n c.indices_in.result) (sym c.indices_in.ensures.left)
    (settles_on (g.A.Asks.standing c.args.asks.now) (asked (whnf (tree_at before c.args.e))) (λ (R : Tree). own_indices T (as_member F (head R) (args R))) (g.A.Asks.left c.args.asks.now) (g.A.Asks.left c.form_of.new.asks)
    R value c.indices_in.result c.in_ok-form.ensures.outcome
    (subst (λ p. Settles p value c.indices_in.result)
    (own_kept (frame_at between c.args.frame.now) F (name_at between c.args.parent) T R (frame-steady before between c.args.frame.now c.in_ok-form.ensures.keeps c.requires.frame_in) (c.in_ok-form.ensures.keeps.names.same c.args.parent c.requires.parent_in))
    c.indices_in.ensures.indices))

pub returns-in_err-form-clause-outcome : goal.returns-in_err-form-clause-outcome
returns-in_err-form-clause-outcome g c =
    let before = g.A.Terms.contents c.args.asks.now in
    let p = err_from_is_err_and c.from_residual.result c.from_residual.ensures.1 in
    rw (p.1, p.2) (halts_first (g.A.Asks.standing c.args.asks.now) (asked (whnf (tree_at before c.args.e))) (λ (R : Tree). own_indices (name_at before c.args.parent) (as_member (frame_at before c.args.frame.now) (head R) (args R)))
    (g.A.Asks.left c.args.asks.now) c.in_err-form.field-0.0 c.in_err-form.ensures.outcome)
