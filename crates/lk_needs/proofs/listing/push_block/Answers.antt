use Rattle.std.proofs.lemmas.Result.{on_ok_weaker}
use Rattle.lk_needs.proofs.Lists.{four_lists}
use Rattle.lk_needs.proofs.listing.push_block.Goals as goal

pub returns : goal.returns
returns c =
    let types = rw c.deref.ensures.value at c.in_ok-push_types.ensures in
    let recursors = rw (c.deref-3.ensures.value, c.deref-2.ensures) at c.in_ok-push_recursors.ensures in
    let own = rw c.deref-4.ensures.value at c.in_ok-push_own.ensures in
    let first = rw c.deref-5.ensures.value at c.first_of.ensures in
    on_ok_weaker c.push_numbered.result (λ numbered. record {
      first = c.first_of.result;
      is_first = first;
      pushed = four_lists _ _ _ _ _ _ _ _ _ types recursors own numbered;
    }) c.push_numbered.ensures
