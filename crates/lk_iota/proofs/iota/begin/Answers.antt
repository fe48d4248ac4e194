use Rattle.std.proofs.Common.{Ok, ap, sym, subst, ◌∙◌}
use Rattle.lk_tree.specs.Spine.{args}
use Rattle.lk_questions.specs.Erased.{a_tree, erased}
use Rattle.lk_store.specs.Contents.{list_at, tree_at}
use Rattle.lk_iota.specs.Redexes.{redex_by}
use Rattle.lk_iota.specs.Iotas.{of_redex_if, Reduces}
use Rattle.lk_ask.proofs.Steps.{gives_now}
use Rattle.lk_iota.proofs.Going.{some_redex, none_redex, constant_goes}
use Rattle.lk_iota.proofs.iota.begin.Goals as goal

pub returns-in-Some : goal.returns-in-Some
returns-in-Some g c x p h quot at =
    let sight = g.L.Looks.sight (g.L.Terms.rest c.args.looks.now) in
    let d = g.L.Terms.contents c.args.looks.now in
    let e = tree_at d c.args.e in
    let ls = list_at d c.args.levels in
    let r = some_redex d sight.basis.library c.in-Some.redex (redex_by ls (args e) p p.kind)
    (rw c.in-Some.is at c.in_ok-redex.ensures.is p h) in
    subst (λ s. Reduces g.L.Terms.contents g.L.Terms.rest g.L.Looks.sight c.args.looks.now
    c.first.new.looks (Ok c.first.result) (λ t. s))
    (ap (of_redex_if e) (sym r.1) ∙ constant_goes e x ls (args e) p p.kind quot)
    (c.first.ensures r.0 (at ∙ r.1) r.2)

pub returns-in-None : goal.returns-in-None
returns-in-None g c x p h quot at =
    let sight = g.L.Looks.sight (g.L.Terms.rest c.args.looks.now) in
    let d = g.L.Terms.contents c.args.looks.now in
    let e = tree_at d c.args.e in
    let ls = list_at d c.args.levels in
    let none = none_redex d sight.basis.library (redex_by ls (args e) p p.kind)
    (rw c.in-None.is at c.in_ok-redex.ensures.is p h) in
    gives_now c.args.looks.now _ _ c.requires.e_in
    (ap (λ o. erased sight.basis.place a_tree sight.last (of_redex_if e o)) (sym none)
    ∙ ap (erased sight.basis.place a_tree sight.last) (constant_goes e x ls (args e) p p.kind quot))
