use Rattle.std.proofs.Common.{◌≡◌, true, length, sym, ap, ◌∙◌}
use Rattle.std.proofs.lemmas.List.{length-map}
use Rattle.std.proofs.lemmas.Result.{err_from_is_err_and}
use Rattle.lk_rulebook.specs.Place.{Ctor}
use Rattle.lk_nested.specs.Findings.{found}
use Rattle.lk_env.proofs.Stays.{constructor_stays}
use Rattle.lk_env.specs.Units.{constructor_at}
use Rattle.lk_inductive.specs.Nested.{has_pis}
use Rattle.lk_store.specs.Contents.{tree_at}
use Rattle.lk_auxiliary.specs.Auxiliaries.{auxs_at}
use Rattle.lk_enlarge.specs.Owns.{typed}
use Rattle.lk_auxiliary.specs.Settings.{setting_at}
use Rattle.lk_enlarge.proofs.Owning.{held_stops, held_found}
use Rattle.lk_enlarge.proofs.own.held_ctor.Goals as goal

pub returns-in_err-ty-clause-held : goal.returns-in_err-ty-clause-held
returns-in_err-ty-clause-held g c =
    let before = g.F.Terms.contents c.args.asks.now in
    let w = (g.F.Asks.standing c.args.asks.now).place in
    let k = constructor_at before c.args.stated.now in
    let pis : has_pis (length (setting_at before c.args.setting.now).params) k.type ≡ true = ap (λ n. has_pis n k.type) (length-map c.args.setting.now.parameters.now (tree_at before)) ∙ sym c.has_pis.ensures ∙ c.if-not-has_pis.false in
    let p = err_from_is_err_and c.from_residual.result c.from_residual.ensures.1 in
    rw (p.1, p.2) (held_stops w (setting_at before c.args.setting.now) k (auxs_at before c.args.met.now.auxs.items) pis c.in_err-ty.field-0.0 c.in_err-ty.ensures.nests)

pub returns-clause-held : goal.returns-clause-held
returns-clause-held g c =
    let before = g.F.Terms.contents c.args.asks.now in
    let after = g.F.Terms.contents c.nest_past.new.asks in
    let w = (g.F.Asks.standing c.args.asks.now).place in
    let k = constructor_at before c.args.stated.now in
    let bs = auxs_at after c.nest_past.new.met.auxs.items in
    let t = tree_at after c.in_ok-ty.ty in
    let pis : has_pis (length (setting_at before c.args.setting.now).params) k.type ≡ true = ap (λ n. has_pis n k.type) (length-map c.args.setting.now.parameters.now (tree_at before)) ∙ sym c.has_pis.ensures ∙ c.if-not-has_pis.false in
    held_found w (setting_at before c.args.setting.now) k (auxs_at before c.args.met.now.auxs.items) pis (t, bs) c.in_ok-ty.ensures.nests
    ∙ ap (λ (x : Ctor). found (typed x t, bs)) (sym (constructor_stays before after c.in_ok-ty.ensures.keeps c.args.stated.now c.requires.stated_in))
    ∙ ap (λ (x : Ctor). found (x, bs)) (sym (c.in_ok-with_type.ensures.value after))
