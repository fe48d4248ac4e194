use Rattle.std.proofs.Common.{◌∙◌, refl, sym, ap}
use Rattle.lk_questions.specs.Erased.{a_tree, erased}
use Rattle.lk_store.specs.Contents.{name_at, list_at, tree_at}
use Rattle.lk_tree.specs.Spine.{head}
use Rattle.lk_ask.proofs.Looking.{found_is}
use Rattle.lk_ask.proofs.Steps.{same_steps}
use Rattle.lk_core.proofs.Constants.{unfolded_is}
use Rattle.lk_core.proofs.whnf.unfolded_again.Goals as goal

pub returns-in-Ok : goal.returns-in-Ok
returns-in-Ok g c =
    let d = g.L.Terms.contents c.args.looks.now in
    let e = tree_at d c.args.e in
    let s = g.L.Looks.sight (g.L.Terms.rest c.args.looks.now) in
    let f = name_at d c.in-Const.name in
    let ls = list_at d c.in-Const.levels in
    let h = found_is s.basis.library s.basis.place f s.last _ c.in-Ok.entry c.in-Ok.ensures.answer refl in
    same_steps (ap (erased s.basis.place a_tree s.last) (sym (unfolded_is s.basis.place e (head e) f ls
    h.entry (c.in-Const.ensures.tree ∙ c.head-front.ensures.is) h.means)))
    (c.by_entry.ensures f h.entry h.is)
