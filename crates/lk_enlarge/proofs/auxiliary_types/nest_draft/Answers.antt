use Rattle.std.proofs.Common.{List, sym, ap, ◌∙◌}
use Rattle.std.proofs.lemmas.Result.{err_from_is_err_and}
use Rattle.lk_rulebook.specs.Place.{Ctor}
use Rattle.lk_nested.specs.Findings.{found}
use Rattle.lk_env.specs.Units.{constructor_at}
use Rattle.lk_inductive.specs.Enlarged.{Aux}
use Rattle.lk_store.specs.Contents.{tree_at}
use Rattle.lk_auxiliary.specs.Auxiliaries.{auxs_at}
use Rattle.lk_enlarge.specs.Drafts.{draft_at}
use Rattle.lk_enlarge.specs.DraftsNested.{drafted}
use Rattle.lk_auxiliary.specs.Settings.{setting_at}
use Rattle.lk_enlarge.proofs.Drafts.{draft_found, draft_stops}
use Rattle.lk_enlarge.proofs.DraftsStay.{draft_stays, draft_known}
use Rattle.lk_enlarge.proofs.Grown.{setting_stays, setting_known, met_grown}
use Rattle.lk_auxiliary.proofs.Others.{auxs_stay}
use Rattle.lk_enlarge.proofs.auxiliary_types.nest_draft.Goals as goal

pub returns-in_err-e-clause-nests : goal.returns-in_err-e-clause-nests
returns-in_err-e-clause-nests g c =
    let before = g.F.Terms.contents c.args.asks.now in
    let w = (g.F.Asks.standing c.args.asks.now).place in
    let p = err_from_is_err_and c.from_residual.result c.from_residual.ensures.1 in
    rw (p.1, p.2) (draft_stops w (setting_at before c.args.setting.now) c.args.number (draft_at before c.args.draft) (auxs_at before c.args.met.now.auxs.items) c.in_err-e.field-0.0 c.in_err-e.ensures.nests)

pub constructor_of-requires-clause-setting_in : goal.constructor_of-requires-clause-setting_in
constructor_of-requires-clause-setting_in g c = setting_known (g.F.Terms.contents c.args.asks.now) (g.F.Terms.contents c.nest.new.asks) c.in_ok-e.ensures.keeps c.args.setting.now c.requires.setting_in

pub constructor_of-requires-clause-draft_in : goal.constructor_of-requires-clause-draft_in
constructor_of-requires-clause-draft_in g c = draft_known (g.F.Terms.contents c.args.asks.now) (g.F.Terms.contents c.nest.new.asks) c.in_ok-e.ensures.keeps c.args.draft c.requires.draft_in

pub returns-clause-met : goal.returns-clause-met
returns-clause-met g c =
    let before = g.F.Terms.contents c.args.asks.now in
    let now = g.F.Terms.contents c.nest.new.asks in
    let s = c.args.setting.now in
    met_grown now (g.F.Terms.contents c.constructor_of.new.terms) c.in_ok-constructor_of.ensures.keeps
    (g.F.Asks.standing c.args.asks.now).place (setting_at before s) s
    (setting_known before now c.in_ok-e.ensures.keeps s c.requires.setting_in) c.nest.new.met
    c.in_ok-e.ensures.met

pub returns-clause-nests : goal.returns-clause-nests
returns-clause-nests g c =
    let before = g.F.Terms.contents c.args.asks.now in
    let now = g.F.Terms.contents c.nest.new.asks in
    let after = g.F.Terms.contents c.constructor_of.new.terms in
    let w = (g.F.Asks.standing c.args.asks.now).place in
    let plain = setting_at before c.args.setting.now in
    let grown = c.in_ok-e.ensures.keeps in
    let as_ = c.nest.new.met.auxs.items in
    let e = tree_at now c.in_ok-e.e in
    let made = c.in_ok-constructor_of.ensures.value ∙ ap (λ s. drafted s c.args.number (draft_at now c.args.draft) e) (setting_stays before now grown c.args.setting.now c.requires.setting_in)
    ∙ ap (λ d. drafted plain c.args.number d e) (draft_stays before now grown c.args.draft c.requires.draft_in) in
    draft_found w plain c.args.number (draft_at before c.args.draft) (auxs_at before c.args.met.now.auxs.items) (e, auxs_at now as_) c.in_ok-e.ensures.nests
    ∙ ap (λ (k : Ctor). found (k, auxs_at now as_)) (sym made)
    ∙ ap (λ (x : List Aux). found (constructor_at after c.in_ok-constructor_of.field-0, x)) (sym (auxs_stay now after c.in_ok-constructor_of.ensures.keeps as_ c.in_ok-e.ensures.met.auxs_in))
