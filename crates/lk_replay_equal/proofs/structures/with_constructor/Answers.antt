use Rattle.std.proofs.Common.{rules, ◌≡◌, true, false, sym, ◌∙◌}
use Rattle.lk_store.specs.Contents.{tree_at}
use Rattle.lk_replay_equal.specs.Structures.{are_full}
use Rattle.lk_replay_equal.proofs.structures.with_constructor.Goals as goal

pub returns : goal.returns
returns g c k h =
    let t = tree_at (g.L.Terms.contents c.args.looks.now) in
    let whole : are_full (t c.args.a) (t c.args.b) k ≡ true = sym (c.in_ok-are_whole.ensures k h) ∙ c.if-not-branch.false in
    rw (whole, ← h.inductive_is, ← h.parameters_are) c.are_alike.ensures
