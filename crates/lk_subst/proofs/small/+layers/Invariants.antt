use Rattle.std.proofs.Common.{suc, ◌*◌}
use Rattle.lk_subst.proofs.small.+layers.Given as goal

abbrev pub decreases-put_layers : goal.decreases-put_layers
decreases-put_layers g l = l.layers * 2

abbrev pub decreases-put_parts : goal.decreases-put_parts
decreases-put_parts g l = suc (l.layers * 2)
