use Rattle.std.proofs.Common.{◌≡◌, None, ap, sym, ◌∙◌}
use Rattle.lk_tree.specs.Tree.{Name}
use Rattle.lk_tree.specs.Spine.{head}
use Rattle.lk_questions.specs.Erased.{a_tree, erased}
use Rattle.lk_questions.specs.Iota.{levels_at, expand_at}
use Rattle.lk_questions.specs.Program.{◌>>=◌}
use Rattle.lk_store.specs.Contents.{list_at, tree_at}
use Rattle.lk_iota.specs.Expansions.{at_ctor}
use Rattle.lk_ask.proofs.Steps.{gives_now}
use Rattle.lk_iota.proofs.structure.by_structure.Goals as goal

pub returns-in-Some : goal.returns-in-Some
returns-in-Some g c p k at only =
    let d = g.L.Terms.contents c.args.looks.now in
    let ty = tree_at d c.args.ty in
    c.ask_sort.ensures p k (list_at d c.in-Some.field-0) at only
    (ap (λ (x : Name). levels_at x (head ty)) (sym only.stands.inductive_is) ∙ c.in-Some.ensures.is)

pub returns-in-None : goal.returns-in-None
returns-in-None g c p k at only =
    let sight = g.L.Looks.sight (g.L.Terms.rest c.args.looks.now) in
    let d = g.L.Terms.contents c.args.looks.now in
    let e = tree_at d c.args.e in
    let m = tree_at d c.args.m in
    let ty = tree_at d c.args.ty in
    let none : levels_at k.ind.name (head ty) ≡ None =
    ap (λ (x : Name). levels_at x (head ty)) (sym only.stands.inductive_is) ∙ c.in-None.ensures.is in
    gives_now c.args.looks.now _ _ c.requires.e_in
    (ap (λ o. erased sight.basis.place a_tree sight.last (expand_at k m ty o >>= at_ctor e p))
    (sym none))
