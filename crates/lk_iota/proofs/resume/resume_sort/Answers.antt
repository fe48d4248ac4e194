use Rattle.std.proofs.Common.{ap, sym, subst}
use Rattle.lk_questions.specs.Erased.{a_tree, erased}
use Rattle.lk_store.specs.Contents.{tree_at}
use Rattle.lk_iota.specs.Redexes.{redex_at}
use Rattle.lk_iota.specs.Expansions.{sort_rest}
use Rattle.lk_iota.specs.Iotas.{Reduces}
use Rattle.lk_ask.proofs.Steps.{gives_now}
use Rattle.lk_iota.proofs.Going.{some_redex, none_redex}
use Rattle.lk_iota.proofs.resume.resume_sort.Goals as goal

pub returns-in-Some : goal.returns-in-Some
returns-in-Some g c =
    let sight = g.L.Looks.sight (g.L.Terms.rest c.args.looks.now) in
    let d = g.L.Terms.contents c.args.looks.now in
    let w = sight.basis.place in
    let e = tree_at d c.args.e in
    let r = some_redex d sight.basis.library c.in-Some.redex (redex_at w e)
    (rw c.in-Some.is at c.in_ok-redex.ensures.is) in
    subst (λ o. Reduces g.L.Terms.contents g.L.Terms.rest g.L.Looks.sight c.args.looks.now
    c.after_sort.new.looks c.after_sort.result (λ t. sort_rest w e o (tree_at d c.args.m) (tree_at d c.args.ty) (tree_at d c.args.sort)))
    (sym r.1) (c.after_sort.ensures r.0 r.2)

pub returns-in-None : goal.returns-in-None
returns-in-None g c =
    let sight = g.L.Looks.sight (g.L.Terms.rest c.args.looks.now) in
    let d = g.L.Terms.contents c.args.looks.now in
    let w = sight.basis.place in
    let e = tree_at d c.args.e in
    let none = none_redex d sight.basis.library (redex_at w e)
    (rw c.in-None.is at c.in_ok-redex.ensures.is) in
    gives_now c.args.looks.now _ _ c.requires.e_in
    (ap (λ o. erased w a_tree sight.last (sort_rest w e o (tree_at d c.args.m) (tree_at d c.args.ty) (tree_at d c.args.sort))) (sym none))
