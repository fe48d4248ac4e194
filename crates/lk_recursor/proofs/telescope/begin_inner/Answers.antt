use Rattle.lk_recursor.proofs.Telescopes.{telescope_inner}
use Rattle.lk_recursor.proofs.telescope.begin_inner.Goals as goal

pub returns : goal.returns
returns c = λ d xs is. telescope_inner d xs c.args.telescope.now c.args.first c.requires is
