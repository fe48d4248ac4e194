use Rattle.lk_tree.specs.Tree.{Tree}
use Rattle.lk_tree.specs.Spine.{head, args}
use Rattle.lk_store.specs.Contents.{Contents, tree_at}
use Rattle.lk_constructor.specs.Looking.{app_at}
use Rattle.lk_constructor.proofs.Applied.{none_applied}
use Rattle.lk_derive_eta.proofs.StructureLine.{struct_none}
use Rattle.lk_derive_eta.proofs.structures.by_structure.Goals as goal

pub returns-in-None-clause-tells : goal.returns-in-None-clause-tells
returns-in-None-clause-tells g c =
    let basis = (g.D.Looks.sight (g.D.Terms.rest c.args.derives.now)).basis in
    let d : Contents = g.D.Terms.contents c.args.derives.now in
    let a : Tree = tree_at d c.args.a in
    let b : Tree = tree_at d c.args.b in
    λ says cost h. struct_none basis.place a b (none_applied d basis.library (args b) (app_at basis.place (head b) (args b)) c.in-None.ensures.is) says cost h
