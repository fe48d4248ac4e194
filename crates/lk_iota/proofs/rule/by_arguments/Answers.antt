use Rattle.std.proofs.Common.{refl, length, suc, map, subst, take, drop}
use Rattle.lk_store.specs.Contents.{list_at, tree_at}
use Rattle.lk_iota.specs.RightSides.{right_side}
use Rattle.lk_iota.specs.Iotas.{Reduces}
use Rattle.lk_ask.proofs.Steps.{gives_now}
use Rattle.lk_iota.proofs.RightSides.{none_fits, one_fits}
use Rattle.lk_iota.proofs.rule.by_arguments.Goals as goal

pub returns-in-Some : goal.returns-in-Some
returns-in-Some g c p b is applied =
    let sight = g.L.Looks.sight (g.L.Terms.rest c.args.looks.now) in
    let d = g.L.Terms.contents c.args.looks.now in
    let subject = c.args.arguments.now in
    let u = c.args.redex.now in
    subst (λ s. Reduces g.L.Terms.contents g.L.Terms.rest g.L.Looks.sight c.args.looks.now
    c.by_rule.new.looks c.by_rule.result (λ t. s))
    (one_fits d sight.basis.library u p c.requires.redex_in is c.args.constructor b subject applied
    c.rules_of-rules.result.now (c.rules_of-rules.ensures.value p.entry p.recursor is.entry_is
    is.kind_is) (tree_at d c.args.e) c.fitting_rule.result (length c.args.arguments.now) refl
    c.fitting_rule.ensures.is c.in-Some.rule c.in-Some.is)
    (subst (λ fs. Reduces g.L.Terms.contents g.L.Terms.rest g.L.Looks.sight c.args.looks.now
    c.by_rule.new.looks c.by_rule.result
    (λ t. right_side p.entry (list_at d u.levels) (t c.in-Some.rule.value)
    (map t (take u.shared u.arguments.items)) (map t fs)
    (map t (drop (suc u.before) u.arguments.items))))
    c.split_at.ensures.back (c.by_rule.ensures p.entry is.entry_is))

pub returns-in-None : goal.returns-in-None
returns-in-None g c p b is applied =
    let sight = g.L.Looks.sight (g.L.Terms.rest c.args.looks.now) in
    let d = g.L.Terms.contents c.args.looks.now in
    gives_now c.args.looks.now _ _ c.requires.e_in
    (none_fits d sight.basis.library c.args.redex.now p c.requires.redex_in is c.args.constructor b
    c.args.arguments.now applied c.rules_of-rules.result.now
    (c.rules_of-rules.ensures.value p.entry p.recursor is.entry_is is.kind_is)
    (tree_at d c.args.e) c.fitting_rule.result (length c.args.arguments.now) refl
    c.fitting_rule.ensures.is sight.basis.place sight.last c.in-None.is)
