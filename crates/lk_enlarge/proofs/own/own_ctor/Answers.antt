use Rattle.std.proofs.Common.{true, false, List, sym, ap, subst, ◌∙◌}
use Rattle.std.proofs.lemmas.Result.{err_from_is_err_and}
use Rattle.lk_rulebook.specs.Place.{Ctor}
use Rattle.lk_inductive.specs.Enlarged.{Aux}
use Rattle.lk_nested.specs.Findings.{Finds, Finding, found}
use Rattle.lk_env.specs.Units.{constructor_at}
use Rattle.lk_env.specs.declared.unit.Constructor.{Constructor}
use Rattle.lk_auxiliary.specs.Auxiliaries.{auxs_at}
use Rattle.lk_auxiliary.specs.Settings.{setting_at}
use Rattle.lk_enlarge.proofs.Owning.{own_is, own_stops}
use Rattle.lk_enlarge.proofs.own.own_ctor.Goals as goal

pub returns-in_err-holds-clause-owns : goal.returns-in_err-holds-clause-owns
returns-in_err-holds-clause-owns g c =
    let before = g.F.Terms.contents c.args.asks.now in
    let w = (g.F.Asks.standing c.args.asks.now).place in
    let p = err_from_is_err_and c.from_residual.result c.from_residual.ensures.1 in
    rw (p.1, p.2) (own_stops w (setting_at before c.args.setting.now) (constructor_at before c.args.stated.now) (auxs_at before c.args.met.now.auxs.items) c.in_err-holds.field-0.0 c.in_err-holds.ensures.found)

pub returns-then-branch-clause-owns : goal.returns-then-branch-clause-owns
returns-then-branch-clause-owns g c =
    let before = g.F.Terms.contents c.args.asks.now in
    let after = g.F.Terms.contents c.held_ctor.new.asks in
    let w = (g.F.Asks.standing c.args.asks.now).place in
    let value : Constructor → Ctor × List Aux = λ k. (constructor_at after k, auxs_at after c.held_ctor.new.met.auxs.items) in
    subst (λ (f : Finding (Ctor × List Aux)). Finds f value c.held_ctor.result)
    (sym (own_is w (setting_at before c.args.setting.now) (constructor_at before c.args.stated.now) (auxs_at before c.args.met.now.auxs.items) true (c.in_ok-holds.ensures.found ∙ ap found c.if-branch.true)))
    c.held_ctor.ensures.held

pub returns-clause-owns : goal.returns-clause-owns
returns-clause-owns g c =
    let before = g.F.Terms.contents c.args.asks.now in
    let w = (g.F.Asks.standing c.args.asks.now).place in
    let bs = auxs_at before c.args.met.now.auxs.items in
    own_is w (setting_at before c.args.setting.now) (constructor_at before c.args.stated.now) bs false (c.in_ok-holds.ensures.found ∙ ap found c.if-branch.false)
    ∙ ap (λ (x : Ctor). found (x, bs)) (sym (c.in_ok-copy_constructor.ensures.value before))
