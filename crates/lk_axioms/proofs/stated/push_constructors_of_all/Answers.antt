use Rattle.lk_axioms.specs.Stated.{constructor_numbers}
use Rattle.lk_axioms.proofs.Numbers.{one_list_more}
use Rattle.lk_axioms.proofs.stated.push_constructors_of_all.Goals as goal

pub loop-t-preserved : goal.loop-t-preserved
loop-t-preserved c =
    one_list_more constructor_numbers c.args.trees.now.items c.loop-t.trees.items c.push_constructors.new.trees.items c.args.types.now c.loop-t.t-index c.t-item.result
    c.loop-t-test.true c.t-item.is c.loop-t.invariant (rw c.deref.ensures.value at c.in_ok-push_constructors.ensures)
