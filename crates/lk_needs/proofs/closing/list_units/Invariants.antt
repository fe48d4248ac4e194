use Rattle.lk_needs.specs.Marks.{AreListedTo}
use Rattle.lk_needs.proofs.closing.list_units.Given as goal

abbrev pub invariant-loop-unit : goal.invariant-loop-unit
invariant-loop-unit l = AreListedTo l.needs l.unit l.list.items
