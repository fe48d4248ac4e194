use Rattle.std.proofs.Common.{All, sym, ap, subst, ◌≡◌, ◌∙◌}
use Rattle.std.specs.Prelude.{option_map, IfSome}
use Rattle.std.proofs.lemmas.Result.{err_from_is_err_and}
use Rattle.lk_nested.specs.Findings.{found, FindsNothing}
use Rattle.lk_env.specs.Units.{type_at}
use Rattle.lk_inductive.specs.Enlarged.{aux_from}
use Rattle.lk_auxiliary.specs.Auxiliaries.{auxs_at, IsAuxiliaryIn}
use Rattle.lk_enlarge.specs.Drafts.{outline_at, outline_of, IsOutlineIn}
use Rattle.lk_enlarge.specs.DraftsNested.{outline_nests}
use Rattle.lk_auxiliary.specs.Settings.{setting_at}
use Rattle.lk_enlarge.proofs.Drafts.{next_found, next_stops}
use Rattle.lk_enlarge.proofs.DraftsStay.{outlined_by}
use Rattle.lk_enlarge.proofs.auxiliary_types.nest_next.Goals as goal

pub nest_outline-requires-clause-outline_in : goal.nest_outline-requires-clause-outline_in
nest_outline-requires-clause-outline_in g c =
    let s = g.F.Terms.contents c.args.asks.now in
    subst (λ o. IfSome o (IsOutlineIn s)) c.in-Some.is (c.in_ok-find_outline.ensures.known s (subst (All (IsAuxiliaryIn s)) (sym c.deref.ensures.value) c.requires.met.auxs_in))

pub returns-in_err-ty-in-Some-clause-nests : goal.returns-in_err-ty-in-Some-clause-nests
returns-in_err-ty-in-Some-clause-nests g c =
    let s = g.F.Terms.contents c.args.asks.now in
    let w = (g.F.Asks.standing c.args.asks.now).place in
    let plain = setting_at s c.args.setting.now in
    let as_ = auxs_at s c.args.met.now.auxs.items in
    let i = c.args.number in
    let told = c.in_ok-find_outline.ensures.value s ∙ ap (λ xs. option_map outline_of (aux_from (auxs_at s xs) i)) c.deref.ensures.value in
    let by = outlined_by (option_map (outline_at s) c.in_ok-find_outline.field-0) (aux_from as_ i) (outline_at s c.in-Some.outline) told (ap (option_map (outline_at s)) c.in-Some.is) in
    let stop = c.in_err-ty-in-Some.field-0.0 in
    let p = err_from_is_err_and c.from_residual-in_err-ty-in-Some.result c.from_residual-in_err-ty-in-Some.ensures.1 in
    rw (p.1, p.2) (next_stops w plain i as_ by.0 by.1 stop (subst (λ o. FindsNothing (outline_nests w plain i o as_) stop) (sym by.2) c.in_err-ty-in-Some.ensures.nests))

pub returns-in_ok-ty-in-Some-clause-nests : goal.returns-in_ok-ty-in-Some-clause-nests
returns-in_ok-ty-in-Some-clause-nests g c =
    let s = g.F.Terms.contents c.args.asks.now in
    let after = g.F.Terms.contents c.nest_outline.new.asks in
    let w = (g.F.Asks.standing c.args.asks.now).place in
    let plain = setting_at s c.args.setting.now in
    let as_ = auxs_at s c.args.met.now.auxs.items in
    let i = c.args.number in
    let told = c.in_ok-find_outline.ensures.value s ∙ ap (λ xs. option_map outline_of (aux_from (auxs_at s xs) i)) c.deref.ensures.value in
    let by = outlined_by (option_map (outline_at s) c.in_ok-find_outline.field-0) (aux_from as_ i) (outline_at s c.in-Some.outline) told (ap (option_map (outline_at s)) c.in-Some.is) in
    let bs = auxs_at after c.nest_outline.new.met.auxs.items in
    let t = type_at after c.in_ok-ty-in-Some.ty in
    next_found w plain i as_ by.0 by.1 (t, bs) (subst (λ o. outline_nests w plain i o as_ ≡ found (t, bs)) (sym by.2) c.in_ok-ty-in-Some.ensures.nests)
