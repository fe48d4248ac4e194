use Rattle.lk_recheck.proofs.Units.{tells_same}
use Rattle.lk_recheck.proofs.same.same_unit.Goals as goal

pub returns : goal.returns
returns c =
    λ d once h k. tells_same d once c.args.a.now c.args.b.now c.is_same.result c.is_same.ensures h k
