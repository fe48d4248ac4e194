use Rattle.std.proofs.Common.{sym, subst}
use Rattle.lk_rulebook.specs.WellStated.{WellStated}
use Rattle.leancheck.proofs.deriver.any_core_row.Goals as goal

pub major_row-requires-clause-stated : goal.major_row-requires-clause-stated
major_row-requires-clause-stated g c = subst WellStated (sym c.core_row.ensures.leaves.place) c.requires.stated
