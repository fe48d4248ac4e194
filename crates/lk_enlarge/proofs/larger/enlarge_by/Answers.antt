use Rattle.std.proofs.Common.{map, ap, ◌∙◌}
use Rattle.std.proofs.lemmas.Result.{err_from_is_err_and}
use Rattle.lk_nested.specs.Findings.{found}
use Rattle.lk_env.specs.Units.{type_at}
use Rattle.lk_auxiliary.specs.Settings.{setting_at}
use Rattle.lk_enlarge.proofs.Holding.{enlarged_none, enlarged_refused}
use Rattle.lk_enlarge.proofs.larger.enlarge_by.Goals as goal

pub returns-in_err-types_hold-clause-enlarges : goal.returns-in_err-types_hold-clause-enlarges
returns-in_err-types_hold-clause-enlarges g c =
    let s = g.F.Terms.contents c.args.asks.now in
    let w = (g.F.Asks.standing c.args.asks.now).place in
    let p = err_from_is_err_and c.from_residual.result c.from_residual.ensures.1 in
    rw (p.1, p.2) (enlarged_refused w (setting_at s c.args.setting.now) (map (type_at s) c.args.types.now) c.in_err-types_hold.field-0.0 c.in_err-types_hold.ensures.hold)

pub returns-then-not-branch-clause-enlarges : goal.returns-then-not-branch-clause-enlarges
returns-then-not-branch-clause-enlarges g c =
    let s = g.F.Terms.contents c.args.asks.now in
    let w = (g.F.Asks.standing c.args.asks.now).place in
    enlarged_none w (setting_at s c.args.setting.now) (map (type_at s) c.args.types.now) (c.in_ok-types_hold.ensures.hold ∙ ap found c.if-not-branch.true)
