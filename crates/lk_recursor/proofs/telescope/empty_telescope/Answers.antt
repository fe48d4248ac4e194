use Rattle.lk_recursor.proofs.Telescopes.{telescope_none}
use Rattle.lk_recursor.proofs.telescope.empty_telescope.Goals as goal

pub returns-clause-is : goal.returns-clause-is
returns-clause-is c = λ d. telescope_none d (record { runs = c.alone.result; domains = c.new.result }) c.args.first c.new.ensures.items c.alone.ensures.outer_count c.alone.ensures.inner
