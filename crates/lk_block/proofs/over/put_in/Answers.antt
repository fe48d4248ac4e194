use Rattle.std.proofs.lemmas.Result.{err_from_is_err_and}
use Rattle.lk_store.specs.Contents.{tree_at}
use Rattle.lk_block.proofs.Overs.{put_stops, put_differs, put_goes}
use Rattle.lk_block.proofs.over.put_in.Goals as goal

pub returns-in_err-equal-clause-outcome : goal.returns-in_err-equal-clause-outcome
returns-in_err-equal-clause-outcome g c =
    let before = g.A.Terms.contents c.args.asks.now in
    let p = err_from_is_err_and c.from_residual.result c.from_residual.ensures.1 in
    rw (p.1, p.2) (put_stops (g.A.Asks.standing c.args.asks.now) (tree_at before c.args.parameter) (tree_at before c.args.domain) (tree_at before c.args.body) (tree_at before c.domain_of-own.result)
    (g.A.Asks.left c.args.asks.now) c.domain_of-own.ensures.domain c.in_err-equal.field-0.0 c.in_err-equal.ensures.outcome)

pub returns-then-not-equal-clause-outcome : goal.returns-then-not-equal-clause-outcome
returns-then-not-equal-clause-outcome g c =
    let before = g.A.Terms.contents c.args.asks.now in
    put_differs (g.A.Asks.standing c.args.asks.now) (tree_at before c.args.parameter) (tree_at before c.args.domain) (tree_at before c.args.body) (tree_at before c.domain_of-own.result)
    (g.A.Asks.left c.args.asks.now) c.domain_of-own.ensures.domain c.in_ok-equal.equal (g.A.Asks.left c.are_same.new.asks) c.in_ok-equal.ensures.outcome c.if-not-equal.true

pub returns-clause-outcome : goal.returns-clause-outcome
returns-clause-outcome g c =
    let before = g.A.Terms.contents c.args.asks.now in
    let after = g.A.Terms.contents c.open.new.asks in
    put_goes (g.A.Asks.standing c.args.asks.now) (tree_at before c.args.parameter) (tree_at before c.args.domain) (tree_at before c.args.body) (tree_at before c.domain_of-own.result)
    (g.A.Asks.left c.args.asks.now) c.domain_of-own.ensures.domain c.in_ok-equal.equal (g.A.Asks.left c.are_same.new.asks) (g.A.Asks.left c.open.new.asks) (tree_at after c.in_ok-open.field-0) c.in_ok-equal.ensures.outcome c.if-not-equal.false
    (rw (← c.in_ok-equal.ensures.keeps.trees.same c.args.body c.requires.body_in, ← c.in_ok-equal.ensures.keeps.trees.same c.args.parameter c.requires.parameter_in) c.in_ok-open.ensures.ok.is) c.open.ensures.left
