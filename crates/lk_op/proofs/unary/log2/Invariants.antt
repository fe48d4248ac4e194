use Rattle.std.proofs.Common.{◌≡◌, ◌+◌, ◌≤◌}
use Rattle.lk_tree.specs.Operations.{halvings}
use Rattle.lk_op.proofs.unary.log2.Given as goal

abbrev pub invariant-halve : goal.invariant-halve
invariant-halve l = record {
  counted : l.count + halvings l.rounds l.left ≡ halvings 128 l.a;
  few : l.count + l.rounds ≤ 128;
}

abbrev pub decreases-halve : goal.decreases-halve
decreases-halve l = l.rounds
