use Rattle.std.proofs.Common.{◌+◌, ◌*◌}
use Rattle.lk_subst.proofs.layers.+layers.Given as goal

abbrev pub decreases-parts : goal.decreases-parts
decreases-parts g l = l.layers * 4 + 3

abbrev pub decreases-both : goal.decreases-both
decreases-both g l = l.layers * 4 + 2

abbrev pub decreases-made_of : goal.decreases-made_of
decreases-made_of g l = l.layers * 4 + 1

abbrev pub decreases-walked : goal.decreases-walked
decreases-walked g l = l.layers * 4
