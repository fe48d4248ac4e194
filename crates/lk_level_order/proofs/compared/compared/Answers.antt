use Rattle.std.proofs.Common.{ap}
use Rattle.lk_store.specs.Contents.{level_at}
use Rattle.lk_level_order.specs.Parameters.{names_of}
use Rattle.lk_level_order.proofs.Decided.{holds_of_one, too_wide}
use Rattle.lk_level_order.proofs.compared.compared.Goals as goal

pub returns-then-rights-gt-MOST-clause-width : goal.returns-then-rights-gt-MOST-clause-width
returns-then-rights-gt-MOST-clause-width g c =
    let t = g.T.Terms.contents c.args.terms.now in
    too_wide (names_of t c.gather_both.new.names) c.in_ok-rights.rights (level_at t c.args.a) (level_at t c.args.b) c.in_ok-rights.ensures c.if-rights-gt-MOST.true c.args.relation

pub returns-then-a-b-clause-ok : goal.returns-then-a-b-clause-ok
returns-then-a-b-clause-ok g c =
    let t = g.T.Terms.contents c.args.terms.now in
    holds_of_one (names_of t c.gather_both.new.names) c.in_ok-rights.rights (level_at t c.args.a) (level_at t c.args.b) c.in_ok-rights.ensures c.if-rights-gt-MOST.false c.args.relation
    (ap (level_at t) c.if-a-b.true)
