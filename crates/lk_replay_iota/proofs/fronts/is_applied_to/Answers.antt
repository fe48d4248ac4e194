use Rattle.std.proofs.Common.{map, ◌∙◌}
use Rattle.lk_store.specs.Contents.{tree_at}
use Rattle.lk_replay_iota.proofs.Applying.{front_tests, front_fails}
use Rattle.lk_replay_iota.proofs.fronts.is_applied_to.Goals as goal

pub returns-in-Some : goal.returns-in-Some
returns-in-Some g c =
    let t = tree_at (g.T.Terms.contents c.args.terms.now) in
    c.same_tree.ensures ∙ front_tests (t c.args.e) (t c.in-Some.found) (t c.args.front) (map t c.args.arguments.now) c.in-Some.ensures.1

pub returns-in-None : goal.returns-in-None
returns-in-None g c =
    let t = tree_at (g.T.Terms.contents c.args.terms.now) in
    front_fails (t c.args.e) (t c.args.front) (map t c.args.arguments.now) c.in-None.ensures
