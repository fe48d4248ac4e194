use Rattle.std.proofs.Common.{[], ap, sym, subst, ◌∙◌}
use Rattle.lk_questions.specs.Erased.{a_tree, erased}
use Rattle.lk_store.specs.Contents.{tree_at}
use Rattle.lk_ask.proofs.Steps.{gives_now}
use Rattle.lk_constructor.proofs.Applied.{some_applied, none_applied}
use Rattle.lk_iota.specs.OnlyRule.{only_at}
use Rattle.lk_iota.specs.Iotas.{by_type_if, Reduces}
use Rattle.lk_iota.proofs.candidate.after_type.Goals as goal

pub returns-in-Some : goal.returns-in-Some
returns-in-Some g c p at is =
    let d = g.L.Terms.contents c.args.looks.now in
    let basis = (g.L.Looks.sight (g.L.Terms.rest c.args.looks.now)).basis in
    let b = some_applied d basis.library [] c.in-Some.constructor
    (only_at basis.place p.recursor.rules)
    (c.in-Some.ensures.is p.entry p.recursor is.entry_is is.kind_is) in
    subst (λ o. Reduces g.L.Terms.contents g.L.Terms.rest g.L.Looks.sight c.args.looks.now
    c.by_type.new.looks c.by_type.result (λ t. by_type_if (t c.args.e) p (t c.args.ty) o)) (sym b.1)
    (c.by_type.ensures p b.0 at is (record { only = b.1; stands = b.2 }))

pub returns-in-None : goal.returns-in-None
returns-in-None g c p at is =
    let sight = g.L.Looks.sight (g.L.Terms.rest c.args.looks.now) in
    let d = g.L.Terms.contents c.args.looks.now in
    let e = tree_at d c.args.e in
    let ty = tree_at d c.args.ty in
    let none = none_applied d sight.basis.library [] (only_at sight.basis.place p.recursor.rules)
    (c.in-None.ensures.is p.entry p.recursor is.entry_is is.kind_is) in
    gives_now c.args.looks.now _ _
    (c.ask_major.ensures.known _ c.requires.redex_in.major_in c.requires.e_in)
    (c.ask_major.ensures.steps sight.basis.place d sight.basis.library sight.last p at is
    ∙ ap (λ o. erased sight.basis.place a_tree sight.last (by_type_if e p ty o)) (sym none))
