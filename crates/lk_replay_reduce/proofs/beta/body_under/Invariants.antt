use Rattle.std.proofs.Common.{◌≡◌, ◌<◌, ◌≤◌, ◌+◌, ◌-◌, length}
use Rattle.lk_store.specs.Contents.{tree_at}
use Rattle.lk_questions.specs.Core.{lambdas}
use Rattle.lk_replay_reduce.specs.Lambdas.{under}
use Rattle.lk_replay_reduce.proofs.beta.body_under.Given as goal

abbrev pub invariant-down : goal.invariant-down
invariant-down g l =
    let c = g.T.Terms.contents l.terms in
    record {
      known : l.body < length c.trees;
      few : l.count ≤ l.most;
      left : l.count + lambdas (tree_at c l.body) ≡ lambdas (tree_at c l.fn.head);
      under : under l.count (tree_at c l.fn.head) ≡ tree_at c l.body;
    }

abbrev pub decreases-down : goal.decreases-down
decreases-down g l = l.most - l.count
