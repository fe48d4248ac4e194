use Rattle.std.proofs.Common.{◌≤◌, ◌^◌, rules, arith}
use Rattle.std.specs.Str.Parse.{digits_value}
use Rattle.lk_lines.proofs.Numerals.{number_of-bad, number_of-large}
use Rattle.lk_lines.proofs.steps.number_of.Goals as goal

pub returns-in-None : goal.returns-in-None
returns-in-None g c = number_of-bad _ c.args.field.now (search rules)

pub returns-in-Some-Wide : goal.returns-in-Some-Wide
returns-in-Some-Wide g c =
    let wide : 2 ^ 128 ≤ digits_value 10 c.args.field.now = rw c.in-Some-Wide.field-0-is at c.in-Some-Wide.ensures.value in
    let fits : g.N.FileNumber.view.limit ≤ 2 ^ 64 = g.met.N.FileNumber.fits in
    number_of-large _ c.args.field.now (search rules) (omega (arith, wide, fits))
