use Rattle.std.proofs.Common.{◌≡◌, take}
use Rattle.std.specs.Prelude.{All}
use Rattle.lk_tree.specs.Loose.{loose}
use Rattle.lk_store.specs.Contents.{tree_at}
use Rattle.lk_replay_reduce.proofs.beta.are_closed.Given as goal

abbrev pub invariant-loop-v : goal.invariant-loop-v
invariant-loop-v g l = record { closed : All (λ v. loose (tree_at (g.T.Terms.contents l.terms) v) ≡ 0) (take l.v-index l.values) }
