use Rattle.std.proofs.Common.{sym, subst}
use Rattle.lk_rulebook.specs.WellStated.{WellStated}
use Rattle.leancheck.proofs.deriver.DeriverRows.row.Goals as goal

pub invariant_of-self : goal.invariant_of-self
invariant_of-self g c = subst WellStated (sym c.row_of.ensures.leaves.place) c.self.invariant
