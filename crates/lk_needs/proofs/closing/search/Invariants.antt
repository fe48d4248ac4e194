use Rattle.lk_needs.specs.Marks.{turns}
use Rattle.lk_needs.specs.Search.{IsUnderWay}
use Rattle.lk_needs.proofs.closing.search.Given as goal

abbrev pub invariant-waiting : goal.invariant-waiting
invariant-waiting l = IsUnderWay l.library l.unit l.needs

abbrev pub decreases-waiting : goal.decreases-waiting
decreases-waiting l = turns l.needs
