use Rattle.std.proofs.Common.{List, map, sym, ap, subst, ◌≡◌, ◌∙◌}
use Rattle.std.proofs.lemmas.Result.{err_from_is_err_and}
use Rattle.lk_rulebook.specs.Place.{BlockType}
use Rattle.lk_nested.specs.Findings.{found, FindsNothing}
use Rattle.lk_env.specs.Units.{constructor_at, type_at}
use Rattle.lk_inductive.specs.Enlarged.{Aux}
use Rattle.lk_auxiliary.specs.Auxiliaries.{auxs_at}
use Rattle.lk_enlarge.specs.Drafts.{draft_at, outline_at}
use Rattle.lk_enlarge.specs.DraftsNested.{outlined, drafts_nest}
use Rattle.lk_auxiliary.specs.Settings.{setting_at}
use Rattle.lk_enlarge.proofs.Drafts.{outline_found, outline_stops}
use Rattle.lk_enlarge.proofs.DraftsStay.{outline_stays}
use Rattle.lk_enlarge.proofs.Grown.{setting_stays, setting_known, met_grown}
use Rattle.lk_auxiliary.proofs.Others.{auxs_stay}
use Rattle.lk_enlarge.proofs.auxiliary_types.nest_outline.Goals as goal

pub returns-in_err-constructors-clause-nests : goal.returns-in_err-constructors-clause-nests
returns-in_err-constructors-clause-nests g c =
    let before = g.F.Terms.contents c.args.asks.now in
    let w = (g.F.Asks.standing c.args.asks.now).place in
    let plain = setting_at before c.args.setting.now in
    let as_ = auxs_at before c.args.met.now.auxs.items in
    let stop = c.in_err-constructors.field-0.0 in
    let p = err_from_is_err_and c.from_residual.result c.from_residual.ensures.1 in
    rw (p.1, p.2) (outline_stops w plain c.args.number (outline_at before c.args.outline.now) as_ stop
    (subst (λ ks. FindsNothing (drafts_nest w plain c.args.number (map (draft_at before) ks) as_) stop) c.deref.ensures.value c.in_err-constructors.ensures.nests))

pub type_of-requires-clause-setting_in : goal.type_of-requires-clause-setting_in
type_of-requires-clause-setting_in g c = setting_known (g.F.Terms.contents c.args.asks.now) (g.F.Terms.contents c.nest_drafts.new.asks) c.in_ok-constructors.ensures.keeps c.args.setting.now c.requires.setting_in

pub returns-clause-met : goal.returns-clause-met
returns-clause-met g c =
    let before = g.F.Terms.contents c.args.asks.now in
    let now = g.F.Terms.contents c.nest_drafts.new.asks in
    let s = c.args.setting.now in
    met_grown now (g.F.Terms.contents c.type_of.new.terms) c.in_ok-type_of.ensures.keeps
    (g.F.Asks.standing c.args.asks.now).place (setting_at before s) s
    (setting_known before now c.in_ok-constructors.ensures.keeps s c.requires.setting_in) c.nest_drafts.new.met
    c.in_ok-constructors.ensures.met

pub returns-clause-nests : goal.returns-clause-nests
returns-clause-nests g c =
    let before = g.F.Terms.contents c.args.asks.now in
    let now = g.F.Terms.contents c.nest_drafts.new.asks in
    let after = g.F.Terms.contents c.type_of.new.terms in
    let w = (g.F.Asks.standing c.args.asks.now).place in
    let plain = setting_at before c.args.setting.now in
    let i = c.args.number in
    let grown = c.in_ok-constructors.ensures.keeps in
    let start = auxs_at before c.args.met.now.auxs.items in
    let as_ = c.nest_drafts.new.met.auxs.items in
    let cs = map (constructor_at now) c.in_ok-constructors.constructors.items in
    let made = c.in_ok-type_of.ensures.value ∙ ap (λ s. outlined s i (outline_at now c.args.outline.now) cs) (setting_stays before now grown c.args.setting.now c.requires.setting_in)
    ∙ ap (λ o. outlined plain i o cs) (outline_stays before now grown c.args.outline.now c.requires.outline_in) in
    outline_found w plain i (outline_at before c.args.outline.now) start (cs, auxs_at now as_)
    (subst (λ ks. drafts_nest w plain i (map (draft_at before) ks) start ≡ found (cs, auxs_at now as_)) c.deref.ensures.value c.in_ok-constructors.ensures.nests)
    ∙ ap (λ (t : BlockType). found (t, auxs_at now as_)) (sym made)
    ∙ ap (λ (x : List Aux). found (type_at after c.in_ok-type_of.field-0, x)) (sym (auxs_stay now after c.in_ok-type_of.ensures.keeps as_ c.in_ok-constructors.ensures.met.auxs_in))
