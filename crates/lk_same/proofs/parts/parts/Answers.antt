use Rattle.std.proofs.Common.{subst}
use Rattle.lk_tree.specs.Tree.{Tree}
use Rattle.lk_questions.specs.Same.{by_parts}
use Rattle.lk_questions.specs.Pairs.{Line}
use Rattle.lk_store.specs.Contents.{tree_at}
use Rattle.lk_same.specs.Sames.{ComparesParts}
use Rattle.lk_same.proofs.Spines.{parts_of_spines}
use Rattle.lk_same.proofs.parts.parts.Goals as goal

pub returns-in-Const : goal.returns-in-Const
returns-in-Const g c =
    let d = g.L.Terms.contents c.args.looks.now in
    subst (λ (x : Tree). ComparesParts d c.args.a c.args.b c.constant_and.result
    (by_parts x (tree_at d c.args.b))) c.in-Const.ensures.tree (c.constant_and.ensures c.args.a)

pub returns-in-App : goal.returns-in-App
returns-in-App g c =
    let d = g.L.Terms.contents c.args.looks.now in
    let t = tree_at d in
    parts_of_spines (λ (l : Line). ComparesParts d c.args.a c.args.b c.spines.result l)
    (t c.in-App.field-0) (t c.in-App.field-1) (t c.args.a) (t c.args.b)
    c.in-App.ensures.tree c.spines.ensures
