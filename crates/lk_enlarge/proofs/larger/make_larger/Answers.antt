use Rattle.std.proofs.Common.{◌≡◌, List, map, sym, ap, subst, ◌∙◌}
use Rattle.std.proofs.lemmas.Result.{err_from_is_err_and}
use Rattle.lk_rulebook.specs.Place.{BlockType}
use Rattle.lk_nested.specs.Findings.{found, FindsNothing}
use Rattle.lk_env.proofs.Stays.{types_stay}
use Rattle.lk_env.specs.Units.{type_at}
use Rattle.lk_inductive.specs.Enlarged.{Aux}
use Rattle.lk_auxiliary.specs.Auxiliaries.{auxs_at}
use Rattle.lk_enlarge.specs.DraftsNested.{types_nest}
use Rattle.lk_enlarge.specs.Owns.{types_own}
use Rattle.lk_auxiliary.specs.Settings.{setting_at}
use Rattle.lk_enlarge.proofs.Grown.{setting_stays, setting_known}
use Rattle.lk_enlarge.proofs.Holding.{enlarged_stops, enlarged_found, enlarged_stopped}
use Rattle.lk_enlarge.proofs.Owned.{met_on}
use Rattle.lk_enlarge.proofs.larger.make_larger.Goals as goal

pub returns-in_err-own-clause-enlarges : goal.returns-in_err-own-clause-enlarges
returns-in_err-own-clause-enlarges g c =
    let before = g.F.Terms.contents c.args.asks.now in
    let w = (g.F.Asks.standing c.args.asks.now).place in
    let plain = setting_at before c.args.setting.now in
    let ts = map (type_at before) c.args.types.now in
    let stop = c.in_err-own.field-0.0 in
    let p = err_from_is_err_and c.from_residual.result c.from_residual.ensures.1 in
    rw (p.1, p.2) (enlarged_stops w plain ts stop (subst (λ xs. FindsNothing (types_own w plain ts (auxs_at before xs)) stop) c.requires.none c.in_err-own.ensures.owns))

pub auxiliary_types-requires-clause-setting_in : goal.auxiliary_types-requires-clause-setting_in
auxiliary_types-requires-clause-setting_in g c = setting_known (g.F.Terms.contents c.args.asks.now) (g.F.Terms.contents c.own_types.new.asks) c.in_ok-own.ensures.keeps c.args.setting.now c.requires.setting_in

pub auxiliary_types-requires-clause-met : goal.auxiliary_types-requires-clause-met
auxiliary_types-requires-clause-met g c =
    let before = g.F.Terms.contents c.args.asks.now in
    let now = g.F.Terms.contents c.own_types.new.asks in
    let w = (g.F.Asks.standing c.args.asks.now).place in
    let v = (g.F.Asks.standing c.own_types.new.asks).place in
    let place = ap (λ x. x.place) (g.met.F.Asks.decided c.own_types.new.asks c.args.asks.now c.in_ok-own.ensures.rest).0 in
    met_on before now c.in_ok-own.ensures.keeps c.args.setting.now c.requires.setting_in v w place now c.own_types.new.met c.in_ok-own.ensures.met

pub returns-in_err-auxiliary-clause-enlarges : goal.returns-in_err-auxiliary-clause-enlarges
returns-in_err-auxiliary-clause-enlarges g c =
    let before = g.F.Terms.contents c.args.asks.now in
    let now = g.F.Terms.contents c.own_types.new.asks in
    let w = (g.F.Asks.standing c.args.asks.now).place in
    let v = (g.F.Asks.standing c.own_types.new.asks).place in
    let place = ap (λ x. x.place) (g.met.F.Asks.decided c.own_types.new.asks c.args.asks.now c.in_ok-own.ensures.rest).0 in
    let plain = setting_at before c.args.setting.now in
    let ts = map (type_at before) c.args.types.now in
    let own : List BlockType × List Aux = (map (type_at now) c.in_ok-own.own.items, auxs_at now c.own_types.new.met.auxs.items) in
    let stop = c.in_err-auxiliary.field-0.0 in
    let p = err_from_is_err_and c.from_residual-in_err-auxiliary.result c.from_residual-in_err-auxiliary.ensures.1 in
    rw (p.1, p.2) (enlarged_stopped w plain ts own (subst (λ xs. types_own w plain ts (auxs_at before xs) ≡ found own) c.requires.none c.in_ok-own.ensures.owns) stop
    (subst (λ x. FindsNothing (types_nest x plain own.1) stop) place (subst (λ z. FindsNothing (types_nest v z own.1) stop) (setting_stays before now c.in_ok-own.ensures.keeps c.args.setting.now c.requires.setting_in) c.in_err-auxiliary.ensures.nests)))

pub returns-clause-enlarges : goal.returns-clause-enlarges
returns-clause-enlarges g c =
    let before = g.F.Terms.contents c.args.asks.now in
    let now = g.F.Terms.contents c.own_types.new.asks in
    let after = g.F.Terms.contents c.auxiliary_types.new.asks in
    let w = (g.F.Asks.standing c.args.asks.now).place in
    let v = (g.F.Asks.standing c.own_types.new.asks).place in
    let place = ap (λ x. x.place) (g.met.F.Asks.decided c.own_types.new.asks c.args.asks.now c.in_ok-own.ensures.rest).0 in
    let plain = setting_at before c.args.setting.now in
    let ts = map (type_at before) c.args.types.now in
    let own : List BlockType × List Aux = (map (type_at now) c.in_ok-own.own.items, auxs_at now c.own_types.new.met.auxs.items) in
    let aux : List BlockType × List Aux = (map (type_at after) c.in_ok-auxiliary.auxiliary.items, auxs_at after c.auxiliary_types.new.met.auxs.items) in
    enlarged_found w plain ts own (subst (λ xs. types_own w plain ts (auxs_at before xs) ≡ found own) c.requires.none c.in_ok-own.ensures.owns) aux
    (subst (λ x. types_nest x plain own.1 ≡ found aux) place (subst (λ z. types_nest v z own.1 ≡ found aux) (setting_stays before now c.in_ok-own.ensures.keeps c.args.setting.now c.requires.setting_in) c.in_ok-auxiliary.ensures.nests))
    ∙ ap (λ (o : List BlockType). found (record { own = o; aux = aux.0; auxs = aux.1 })) (sym (types_stay now after c.in_ok-auxiliary.ensures.keeps c.in_ok-own.own.items c.in_ok-own.ensures.made_known))
    ∙ ap (λ xs. found (record { own = map (type_at after) c.in_ok-own.own.items; aux = aux.0; auxs = auxs_at after xs })) (ap (λ v. v.items) (sym c.replace-stand.ensures.value))
