use Rattle.std.proofs.Common.{rules, ◌≡◌, ◌-◌, Some, ap, arith}
use Rattle.lk_type.proofs.Marks.{outermost_is}
use Rattle.lk_type.proofs.marking.outermost.Goals as goal

pub returns-in-Ok-clause-mentioned : goal.returns-in-Ok-clause-mentioned
returns-in-Ok-clause-mentioned g c =
    outermost_is c.loose_bound-loose.result c.in-Ok.n c.requires c.loose_bound-loose.ensures
    (search rules) (search rules) (search rules) (search rules)

pub returns-in-Ok-clause-is : goal.returns-in-Ok-clause-is
returns-in-Ok-clause-is g c m h =
    let at = h.at in
    let l = c.loose_bound-loose.ensures in
    let n : c.in-Ok.n ≡ c.args.subterm.depth - c.loose_bound-loose.result = search rules in
    let same : c.in-Ok.n ≡ m = omega (arith, at, l, n) in
    ap Some same
