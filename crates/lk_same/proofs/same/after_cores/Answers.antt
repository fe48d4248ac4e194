use Rattle.std.proofs.Common.{rules}
use Rattle.lk_ask.proofs.Steps.{gives_now}
use Rattle.lk_same.proofs.same.after_cores.Goals as goal

pub returns-then-same-2 : goal.returns-then-same-2
returns-then-same-2 g c =
    gives_now _ _ _ (c.begin.ensures.known _ c.requires.left_in c.requires.right_in) (search rules)
