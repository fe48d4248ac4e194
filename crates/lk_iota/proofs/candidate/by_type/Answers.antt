use Rattle.std.proofs.Common.{◌≡◌, Some, None, ap, sym, subst, ◌∙◌}
use Rattle.lk_tree.specs.Tree.{Name}
use Rattle.lk_tree.specs.Spine.{head}
use Rattle.lk_questions.specs.Erased.{a_tree, erased}
use Rattle.lk_questions.specs.Iota.{levels_at}
use Rattle.lk_store.specs.Contents.{list_at, tree_at}
use Rattle.lk_iota.specs.Iotas.{at_levels, Reduces}
use Rattle.lk_ask.proofs.Steps.{gives_now}
use Rattle.lk_iota.proofs.candidate.by_type.Goals as goal

pub returns-in-Some : goal.returns-in-Some
returns-in-Some g c p b at is only =
    let d = g.L.Terms.contents c.args.looks.now in
    let e = tree_at d c.args.e in
    let ty = tree_at d c.args.ty in
    let ks = list_at d c.in-Some.levels in
    let found : levels_at b.ind.name (head ty) ≡ Some ks =
    ap (λ (x : Name). levels_at x (head ty)) (sym only.stands.inductive_is) ∙ c.in-Some.ensures.is in
    subst (λ o. Reduces g.L.Terms.contents g.L.Terms.rest g.L.Looks.sight c.args.looks.now
    c.at_parameters.new.looks c.at_parameters.result (λ t. at_levels e p b ty o))
    (sym found) (c.at_parameters.ensures p b at is only)

pub returns-in-None : goal.returns-in-None
returns-in-None g c p b at is only =
    let sight = g.L.Looks.sight (g.L.Terms.rest c.args.looks.now) in
    let d = g.L.Terms.contents c.args.looks.now in
    let e = tree_at d c.args.e in
    let ty = tree_at d c.args.ty in
    let none : levels_at b.ind.name (head ty) ≡ None =
    ap (λ (x : Name). levels_at x (head ty)) (sym only.stands.inductive_is) ∙ c.in-None.ensures.is in
    gives_now c.args.looks.now _ _
    (c.ask_major.ensures.known _ c.requires.redex_in.major_in c.requires.e_in)
    (c.ask_major.ensures.steps sight.basis.place d sight.basis.library sight.last p at is
    ∙ ap (λ o. erased sight.basis.place a_tree sight.last (at_levels e p b ty o)) (sym none))
