use Rattle.std.proofs.Common.{subst}
use Rattle.lk_tree.specs.Tree.{Tree, const}
use Rattle.lk_questions.specs.Same.{by_parts}
use Rattle.lk_store.specs.Contents.{name_at, list_at}
use Rattle.lk_same.specs.Sames.{ComparesParts}
use Rattle.lk_same.proofs.parts.constant_and.Goals as goal

pub returns-in-Const : goal.returns-in-Const
returns-in-Const g c a =
    let d = g.L.Terms.contents c.args.looks.now in
    let left = const (name_at d c.args.name) (list_at d c.args.levels) in
    subst (λ (x : Tree). ComparesParts d a c.args.b c.constants.result (by_parts left x))
    c.in-Const.ensures.tree (c.constants.ensures a c.args.b)
