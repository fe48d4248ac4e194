use Rattle.std.proofs.Common.{Some, None, subst, ◌∙◌}
use Rattle.lk_tree.specs.Tree.{Tree}
use Rattle.lk_rulebook.specs.Place.{Place}
use Rattle.lk_store.specs.Contents.{Contents, tree_at}
use Rattle.lk_derive_reduce.specs.Forms.{IsConstantAt}
use Rattle.lk_derive_reduce.proofs.FormRuns.{headless_whole}
use Rattle.lk_derive_reduce.proofs.forms.uncomputed_row.Goals as goal

pub constant_row-requires-clause-head_is : goal.constant_row-requires-clause-head_is
constant_row-requires-clause-head_is g c =
    let d : Contents = g.D.Terms.contents c.args.derives.now in
    let k : IsConstantAt d (tree_at d c.head-front.result) (Some c.in-Some.constant) = subst (IsConstantAt d (tree_at d c.head-front.result)) c.in-Some.is c.constant_of.ensures in
    k.2 ∙ c.head-front.ensures.is

pub returns-in-None-clause-whole : goal.returns-in-None-clause-whole
returns-in-None-clause-whole g c =
    let d : Contents = g.D.Terms.contents c.args.derives.now in
    let w : Place = (g.D.Looks.sight (g.D.Terms.rest c.args.derives.now)).basis.place in
    let v : Tree = tree_at d c.args.core in
    let k : IsConstantAt d (tree_at d c.head-front.result) None = subst (IsConstantAt d (tree_at d c.head-front.result)) c.in-None.is c.constant_of.ensures in
    headless_whole w d c.args.row.now c.args.enough (tree_at d c.args.e) v (tree_at d c.head-front.result) c.head-front.ensures.is (k v) c.requires.at
