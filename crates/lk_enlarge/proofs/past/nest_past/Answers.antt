use Rattle.std.proofs.Common.{◌≡◌, List, map, sym, ap, subst, ◌∙◌}
use Rattle.std.proofs.lemmas.Result.{err_from_is_err_and}
use Rattle.lk_tree.specs.Tree.{Tree}
use Rattle.lk_inductive.specs.Enlarged.{Aux}
use Rattle.lk_inductive.specs.Recursors.{pis}
use Rattle.lk_nested.specs.Findings.{found, FindsNothing}
use Rattle.lk_store.specs.Contents.{tree_at}
use Rattle.lk_subst.specs.Numbers.{trees-steady}
use Rattle.lk_auxiliary.specs.Auxiliaries.{auxs_at}
use Rattle.lk_auxiliary.specs.Settings.{setting_at}
use Rattle.lk_enlarge.proofs.Grown.{setting_known, met_grown, nests_steady}
use Rattle.lk_enlarge.proofs.Owned.{met_on, met_back}
use Rattle.lk_enlarge.proofs.Opening.{not_past, past_stops, past_found}
use Rattle.lk_auxiliary.proofs.Others.{auxs_stay}
use Rattle.lk_enlarge.proofs.past.nest_past.Goals as goal

pub returns-in_err-locals-clause-nests : goal.returns-in_err-locals-clause-nests
returns-in_err-locals-clause-nests g c =
    let before = g.F.Terms.contents c.args.asks.now in
    let w = (g.F.Asks.standing c.args.asks.now).place in
    let p = err_from_is_err_and c.from_residual.result c.from_residual.ensures.1 in
    rw (p.1, p.2) (not_past (setting_at before c.args.setting.now) (auxs_at before c.args.met.now.auxs.items) w (tree_at before c.args.e) c.in_err-locals.field-0.0 c.in_err-locals.ensures.past)

pub nest-requires-clause-setting_in : goal.nest-requires-clause-setting_in
nest-requires-clause-setting_in g c = setting_known (g.F.Terms.contents c.args.asks.now) (g.F.Terms.contents c.past_locals.new.terms) c.in_ok-locals.ensures.keeps c.args.setting.now c.requires.setting_in

pub nest-requires-clause-met : goal.nest-requires-clause-met
nest-requires-clause-met g c =
    let before = g.F.Terms.contents c.args.asks.now in
    let opened = g.F.Terms.contents c.past_locals.new.terms in
    let w = (g.F.Asks.standing c.args.asks.now).place in
    let v = (g.F.Asks.standing c.past_locals.new.terms).place in
    let place = ap (λ x. x.place) (g.met.F.Asks.decided c.past_locals.new.terms c.args.asks.now c.in_ok-locals.ensures.rest).0 in
    met_on before opened c.in_ok-locals.ensures.keeps c.args.setting.now c.requires.setting_in v w place opened c.args.met.now
    (met_grown before opened c.in_ok-locals.ensures.keeps w (setting_at before c.args.setting.now) c.args.setting.now c.requires.setting_in c.args.met.now c.requires.met)

pub returns-in_err-nested-clause-nests : goal.returns-in_err-nested-clause-nests
returns-in_err-nested-clause-nests g c =
    let before = g.F.Terms.contents c.args.asks.now in
    let opened = g.F.Terms.contents c.past_locals.new.terms in
    let w = (g.F.Asks.standing c.args.asks.now).place in
    let v = (g.F.Asks.standing c.past_locals.new.terms).place in
    let place = ap (λ x. x.place) (g.met.F.Asks.decided c.past_locals.new.terms c.args.asks.now c.in_ok-locals.ensures.rest).0 in
    let inner = tree_at opened c.in_ok-locals.inner in
    let stop = c.in_err-nested.field-0.0 in
    let p = err_from_is_err_and c.from_residual-in_err-nested.result c.from_residual-in_err-nested.ensures.1 in
    rw (p.1, p.2) (past_stops (setting_at before c.args.setting.now) (auxs_at before c.args.met.now.auxs.items) w (tree_at before c.args.e) (map (tree_at opened) c.in_ok-locals.locals.items) inner c.in_ok-locals.ensures.past stop
    (subst (λ f. FindsNothing f stop) (nests_steady before opened c.in_ok-locals.ensures.keeps c.args.setting.now c.requires.setting_in v w place c.args.met.now.auxs.items c.requires.met.auxs_in inner) c.in_err-nested.ensures.nests))

pub returns-clause-met : goal.returns-clause-met
returns-clause-met g c =
    let before = g.F.Terms.contents c.args.asks.now in
    let opened = g.F.Terms.contents c.past_locals.new.terms in
    let now = g.F.Terms.contents c.nest.new.asks in
    let after = g.F.Terms.contents c.over_locals.new.terms in
    let w = (g.F.Asks.standing c.args.asks.now).place in
    let v = (g.F.Asks.standing c.past_locals.new.terms).place in
    let place = ap (λ x. x.place) (g.met.F.Asks.decided c.past_locals.new.terms c.args.asks.now c.in_ok-locals.ensures.rest).0 in
    let s = c.args.setting.now in
    let opening = setting_known before opened c.in_ok-locals.ensures.keeps s c.requires.setting_in in
    let m = c.nest.new.met in
    met_back before opened c.in_ok-locals.ensures.keeps s c.requires.setting_in v w place after m
    (met_grown now after c.in_ok-over_locals.ensures.keeps v (setting_at opened s) s
    (setting_known opened now c.in_ok-nested.ensures.keeps s opening) m c.in_ok-nested.ensures.met)

pub returns-clause-nests : goal.returns-clause-nests
returns-clause-nests g c =
    let before = g.F.Terms.contents c.args.asks.now in
    let opened = g.F.Terms.contents c.past_locals.new.terms in
    let now = g.F.Terms.contents c.nest.new.asks in
    let after = g.F.Terms.contents c.over_locals.new.terms in
    let w = (g.F.Asks.standing c.args.asks.now).place in
    let v = (g.F.Asks.standing c.past_locals.new.terms).place in
    let place = ap (λ x. x.place) (g.met.F.Asks.decided c.past_locals.new.terms c.args.asks.now c.in_ok-locals.ensures.rest).0 in
    let inner = tree_at opened c.in_ok-locals.inner in
    let items = c.in_ok-locals.locals.items in
    let nested = tree_at now c.in_ok-nested.nested in
    let as_ = c.nest.new.met.auxs.items in
    let tree : tree_at after c.in_ok-over_locals.field-0 ≡ pis (map (tree_at opened) items) nested =
    c.in_ok-over_locals.ensures.ok.is
    ∙ ap (λ x. pis (map (tree_at now) x) nested) c.deref.ensures.value
    ∙ ap (λ ts. pis ts nested) (trees-steady opened now items c.in_ok-nested.ensures.keeps c.in_ok-locals.ensures.locals_known) in
    past_found (setting_at before c.args.setting.now) (auxs_at before c.args.met.now.auxs.items) w (tree_at before c.args.e) (map (tree_at opened) items) inner c.in_ok-locals.ensures.past (nested, auxs_at now as_)
    (sym (nests_steady before opened c.in_ok-locals.ensures.keeps c.args.setting.now c.requires.setting_in v w place c.args.met.now.auxs.items c.requires.met.auxs_in inner) ∙ c.in_ok-nested.ensures.nests)
    ∙ ap (λ (t : Tree). found (t, auxs_at now as_)) (sym tree)
    ∙ ap (λ (x : List Aux). found (tree_at after c.in_ok-over_locals.field-0, x)) (sym (auxs_stay now after c.in_ok-over_locals.ensures.keeps as_ c.in_ok-nested.ensures.met.auxs_in))
