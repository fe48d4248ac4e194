use Rattle.std.proofs.Common.{◌≤◌, length}
use Rattle.lk_rows.proofs.table.part.Given as goal

abbrev pub invariant-seeds : goal.invariant-seeds
invariant-seeds g l = (length l.tags.items ≤ length l.slots.items) × (length l.rows ≤ length l.tags.items)
