use Rattle.lk_level_order.specs.Covers.{IsAmong}
use Rattle.lk_level_order.proofs.Related.{decided, decided_by_all}
use Rattle.lk_level_order.proofs.enough.holds.Goals as goal

pub returns-then-rights-le-FEW : goal.returns-then-rights-le-FEW
returns-then-rights-le-FEW c = decided_by_all c.args.parts.now c.args.question c.args.rights c.args.count c.requires c.cases_hold.result c.cases_hold.ensures.yes c.cases_hold.ensures.no

pub returns-in-Ok : goal.returns-in-Ok
returns-in-Ok c =
    decided c.args.parts.now c.args.question c.args.rights c.args.count c.requires (IsAmong c.list_cases.new.rows c.in-Ok.cases) c.in-Ok.ensures.left c.in-Ok.ensures.right
    c.listed_hold.result c.listed_hold.ensures.yes c.listed_hold.ensures.no

pub returns : goal.returns
returns c =
    decided_by_all c.args.parts.now c.args.question c.args.rights c.args.count c.requires c.cases_hold-in-Err.result c.cases_hold-in-Err.ensures.yes c.cases_hold-in-Err.ensures.no
