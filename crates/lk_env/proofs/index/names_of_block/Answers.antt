use Rattle.lk_env.proofs.Members.{three_lists}
use Rattle.lk_env.proofs.index.names_of_block.Goals as goal

pub returns : goal.returns
returns c =
    let types = rw c.deref.ensures.value at c.in_ok-push_types.ensures in
    let constructors = rw c.deref-2.ensures.value at c.in_ok-push_constructors_of_all.ensures in
    let listed = rw c.deref-4.ensures.value at c.in_ok-push_recursors.ensures in
    let recursors = rw c.deref-3.ensures at listed in
    three_lists _ _ _ _ _ _ _ c.new-names.ensures.items types constructors recursors
