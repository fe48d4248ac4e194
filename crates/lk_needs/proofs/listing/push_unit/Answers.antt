use Rattle.std.proofs.Common.{None}
use Rattle.std.proofs.lemmas.Result.{on_ok_weaker}
use Rattle.lk_needs.proofs.listing.push_unit.Goals as goal

pub returns-in-Declaration : goal.returns-in-Declaration
returns-in-Declaration c = rw c.in-Declaration.is (on_ok_weaker c.push_declaration.result (λ e. record { first = None; is_first = tt; pushed = e }) c.push_declaration.ensures)

pub returns-in-Block : goal.returns-in-Block
returns-in-Block c = rw c.in-Block.is c.push_block.ensures
