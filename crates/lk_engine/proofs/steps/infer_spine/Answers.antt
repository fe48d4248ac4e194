use Rattle.std.proofs.Common.{rules}
use Rattle.lk_engine.proofs.Chains.{spine_starts, plain_starts}
use Rattle.lk_engine.proofs.steps.infer_spine.Goals as goal

pub returns-in-Some : goal.returns-in-Some
returns-in-Some g c =
    spine_starts c.in-Some.spine c.infer.result c.pushed_spine.ensures.keeps
    c.pushed_spine.ensures.stays (search rules) c.infer.ensures

pub returns : goal.returns
returns g c =
    plain_starts c.infer-2.result c.requires.e_in c.pushed_spine.ensures.keeps (search rules)
    c.infer-2.ensures
