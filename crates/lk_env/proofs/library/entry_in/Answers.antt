use Rattle.std.proofs.Common.{get_or, None}
use Rattle.lk_env.proofs.Answered.{judged_known, unit_known, answered, none_answered}
use Rattle.lk_env.proofs.library.entry_in.Goals as goal

pub returns-in-Some-clause-known : goal.returns-in-Some-clause-known
returns-in-Some-clause-known c = λ d known.
    judged_known d (get_or c.args.flaws.now c.args.position.unit None) c.in-Some.entry c.flawless.result c.flawless.ensures
    ((c.in-Some.ensures.member d).known (unit_known d c.args.units.now c.args.position.unit c.index-units-i.result c.if-i-units.false c.index-units-i.is known))

pub returns-in-Some-clause-answer : goal.returns-in-Some-clause-answer
returns-in-Some-clause-answer c = λ d are n x.
    answered d c.args.units.now c.args.position.unit c.index-units-i.result c.if-i-units.false c.index-units-i.is c.args.position.member n x c.in-Some.entry c.args.flaws.now c.flawless.result
    c.requires are c.in-Some.ensures.unit c.in-Some.ensures.origin (c.in-Some.ensures.member d) c.flawless.ensures

pub returns-in-None-clause-answer : goal.returns-in-None-clause-answer
returns-in-None-clause-answer c = λ d are n x.
    none_answered d c.args.units.now c.args.position.unit c.index-units-i.result c.if-i-units.false c.index-units-i.is c.args.position.member n x (c.in-None.ensures.member d)
