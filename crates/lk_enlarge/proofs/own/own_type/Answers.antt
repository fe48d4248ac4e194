use Rattle.std.proofs.Common.{◌≡◌, map, sym, ap, subst, ◌∙◌}
use Rattle.std.proofs.lemmas.Result.{err_from_is_err_and}
use Rattle.lk_rulebook.specs.Place.{BlockType}
use Rattle.lk_nested.specs.Findings.{found, FindsNothing}
use Rattle.lk_env.proofs.Stays.{type_stays, type_in_stays}
use Rattle.lk_env.specs.Units.{constructor_at, type_at}
use Rattle.lk_auxiliary.specs.Auxiliaries.{auxs_at}
use Rattle.lk_enlarge.specs.Owns.{all_owns, with_ctors}
use Rattle.lk_auxiliary.specs.Settings.{setting_at}
use Rattle.lk_enlarge.proofs.Owning.{type_found, type_stops}
use Rattle.lk_enlarge.proofs.own.own_type.Goals as goal

pub returns-in_err-made-clause-owns : goal.returns-in_err-made-clause-owns
returns-in_err-made-clause-owns g c =
    let before = g.F.Terms.contents c.args.asks.now in
    let w = (g.F.Asks.standing c.args.asks.now).place in
    let plain = setting_at before c.args.setting.now in
    let as_ = auxs_at before c.args.met.now.auxs.items in
    let stop = c.in_err-made.field-0.0 in
    let p = err_from_is_err_and c.from_residual.result c.from_residual.ensures.1 in
    rw (p.1, p.2) (type_stops w plain (type_at before c.args.stated.now) as_ stop
    (subst (λ ks. FindsNothing (all_owns w plain (map (constructor_at before) ks) as_) stop) c.deref.ensures.value c.in_err-made.ensures.owns))

pub returns-clause-owns : goal.returns-clause-owns
returns-clause-owns g c =
    let before = g.F.Terms.contents c.args.asks.now in
    let after = g.F.Terms.contents c.own_ctors.new.asks in
    let w = (g.F.Asks.standing c.args.asks.now).place in
    let plain = setting_at before c.args.setting.now in
    let as_ = auxs_at before c.args.met.now.auxs.items in
    let bs = auxs_at after c.own_ctors.new.met.auxs.items in
    let ks = map (constructor_at after) c.in_ok-made.made.items in
    type_found w plain (type_at before c.args.stated.now) as_ (ks, bs)
    (subst (λ xs. all_owns w plain (map (constructor_at before) xs) as_ ≡ found (ks, bs)) c.deref.ensures.value c.in_ok-made.ensures.owns)
    ∙ ap (λ (x : BlockType). found (with_ctors x ks, bs)) (sym (type_stays before after c.in_ok-made.ensures.keeps c.args.stated.now c.requires.stated_in))
    ∙ ap (λ (x : BlockType). found (x, bs)) (sym (c.in_ok-with_constructors.ensures.value after))

pub returns-clause-type_known : goal.returns-clause-type_known
returns-clause-type_known g c =
    let before = g.F.Terms.contents c.args.asks.now in
    let after = g.F.Terms.contents c.own_ctors.new.asks in
    c.in_ok-with_constructors.ensures.known after (type_in_stays before after c.in_ok-made.ensures.keeps c.args.stated.now c.requires.stated_in) c.in_ok-made.ensures.made_known
