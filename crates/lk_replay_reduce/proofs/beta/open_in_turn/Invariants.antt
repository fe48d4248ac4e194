use Rattle.std.proofs.Common.{◌≡◌, ◌<◌, length, map}
use Rattle.std.specs.Prelude.{All}
use Rattle.lk_store.specs.Contents.{tree_at, Extends}
use Rattle.lk_questions.specs.Core.{beta}
use Rattle.lk_replay_reduce.proofs.beta.open_in_turn.Given as goal

abbrev pub invariant-open : goal.invariant-open
invariant-open g l =
    let c = g.L.Terms.contents l.fn.looks in
    let now = g.L.Terms.contents l.looks in
    record {
      grown : Extends c now;
      same_rest : g.L.Terms.rest l.looks ≡ g.L.Terms.rest l.fn.looks;
      known : l.e < length now.trees;
      args_known : All (λ e. e < length c.trees) l.rest;
      stands : beta l.left (tree_at now l.e) (map (tree_at c) l.rest) ≡ beta l.fn.count (tree_at c l.fn.head) (map (tree_at c) l.fn.args);
    }

abbrev pub decreases-open : goal.decreases-open
decreases-open g l = length l.rest
