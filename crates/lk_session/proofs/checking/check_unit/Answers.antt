use Rattle.std.proofs.Common.{◌≡◌, Some, slice_get, rules}
use Rattle.lk_session.proofs.Verdicts.{first_checked}
use Rattle.lk_session.proofs.checking.check_unit.Goals as goal

pub returns-in-Some : goal.returns-in-Some
returns-in-Some g c =
    let at : slice_get c.in-Ok.answers.items 0 ≡ Some c.in-Some.verdict.now = search rules in
    first_checked _ _ c.args.number c.in-Ok.answers.items c.in-Some.verdict.now c.in-Ok.ensures.checked at
