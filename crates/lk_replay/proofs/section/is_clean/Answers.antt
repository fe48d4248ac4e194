use Rattle.std.proofs.Common.{sym, ap}
use Rattle.lk_rulebook.specs.Scan.{is_none}
use Rattle.lk_replay.proofs.section.is_clean.Goals as goal

pub returns-in-Ok : goal.returns-in-Ok
returns-in-Ok c =
    let clean = rw c.base.ensures at c.in-Ok.ensures in
    sym (ap is_none clean)

pub returns-in-Err-No : goal.returns-in-Err-No
returns-in-Err-No c =
    let said = rw c.in-Err-No.field-0-is at c.in-Err-No.ensures in
    let broken = rw c.base.ensures at said in
    sym (ap is_none broken)
