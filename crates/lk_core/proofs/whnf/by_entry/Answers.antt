use Rattle.std.proofs.Common.{◌≡◌, Some, refl, sym, ap, ◌∙◌}
use Rattle.lk_tree.specs.Tree.{const}
use Rattle.lk_questions.specs.Erased.{a_tree, erased}
use Rattle.lk_questions.specs.Core.{unfolded}
use Rattle.lk_questions.specs.Steps.{value_of}
use Rattle.lk_store.specs.Store.{contents_of}
use Rattle.lk_store.specs.Contents.{list_at, tree_at}
use Rattle.lk_ask.proofs.Steps.{same_steps, gives_now}
use Rattle.lk_core.proofs.whnf.by_entry.Goals as goal

pub returns-in-Some : goal.returns-in-Some
returns-in-Some g c f y there =
    let t = tree_at (g.L.Terms.contents c.args.looks.now) in
    let ls = list_at (g.L.Terms.contents c.args.looks.now) c.args.levels in
    let s = g.L.Looks.sight (g.L.Terms.rest c.args.looks.now) in
    let base = contents_of s.basis.library.tables in
    let v = c.in-Some.value in
    let over = c.requires.over.trees.same v (c.in-Some.ensures.known base c.requires.known) in
    let value : value_of y.kind ≡ Some (t v) =
    c.in-Some.ensures.value base s.basis.library.units y there ∙ ap Some (sym over) in
    same_steps (ap (λ o. erased s.basis.place a_tree s.last (unfolded y (const f ls) (t c.args.e) o))
    (sym value)) (c.by_value.ensures f y there)

pub returns-in-None : goal.returns-in-None
returns-in-None g c f y there =
    let t = tree_at (g.L.Terms.contents c.args.looks.now) in
    let ls = list_at (g.L.Terms.contents c.args.looks.now) c.args.levels in
    let s = g.L.Looks.sight (g.L.Terms.rest c.args.looks.now) in
    let base = contents_of s.basis.library.tables in
    gives_now _ _ _ c.requires.e_in
    (ap (λ o. erased s.basis.place a_tree s.last (unfolded y (const f ls) (t c.args.e) o))
    (sym (c.in-None.ensures.value base s.basis.library.units y there)))
