use Rattle.std.proofs.Common.{subst}
use Rattle.std.proofs.lemmas.Result.{err_from_is_err_and}
use Rattle.lk_tree.specs.Tree.{Tree}
use Rattle.lk_store.specs.Contents.{tree_at}
use Rattle.lk_declaration.specs.Courses.{ComesTo}
use Rattle.lk_block.specs.Forms.{pi_form, put_form}
use Rattle.lk_declaration.proofs.Running.{halts_first, gives_on}
use Rattle.lk_block.proofs.over.put_parameter.Goals as goal

pub returns-in_err-parts-clause-outcome : goal.returns-in_err-parts-clause-outcome
returns-in_err-parts-clause-outcome g c =
    let before = g.A.Terms.contents c.args.asks.now in
    let p = err_from_is_err_and c.from_residual.result c.from_residual.ensures.1 in
    rw (p.1, p.2) (halts_first (g.A.Asks.standing c.args.asks.now) (pi_form (tree_at before c.args.e)) (λ (p : Tree × Tree). put_form (tree_at before c.args.parameter) p.0 p.1)
    (g.A.Asks.left c.args.asks.now) c.in_err-parts.field-0.0 c.in_err-parts.ensures.outcome)

pub returns-clause-outcome : goal.returns-clause-outcome
returns-clause-outcome g c =
    let before = g.A.Terms.contents c.args.asks.now in
    let between = g.A.Terms.contents c.pi_of.new.asks in
    let after = g.A.Terms.contents c.put_in.new.asks in
    let same = c.in_ok-parts.ensures.keeps.trees.same c.args.parameter c.requires.parameter_in in
    gives_on (g.A.Asks.standing c.args.asks.now) (g.A.Asks.standing c.pi_of.new.asks) c.in_ok-parts.ensures.stays
    (pi_form (tree_at before c.args.e)) (λ (p : Tree × Tree). put_form (tree_at before c.args.parameter) p.0 p.1)
    (g.A.Asks.left c.args.asks.now) (g.A.Asks.left c.pi_of.new.asks) (g.A.Asks.left c.put_in.new.asks) (tree_at between c.in_ok-parts.parts.0, tree_at between c.in_ok-parts.parts.1) (tree_at after) c.put_in.result
    c.in_ok-parts.ensures.outcome
    (subst (λ P. ComesTo (g.A.Asks.standing c.pi_of.new.asks) (put_form P (tree_at between c.in_ok-parts.parts.0) (tree_at between c.in_ok-parts.parts.1)) (g.A.Asks.left c.pi_of.new.asks) (tree_at after) (g.A.Asks.left c.put_in.new.asks) c.put_in.result) same c.put_in.ensures.outcome)
