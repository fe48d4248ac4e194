use Rattle.lk_tree.specs.Tree.{Tree}
use Rattle.lk_tree.specs.Spine.{head, args}
use Rattle.lk_constructor.specs.Looking.{app_at}
use Rattle.lk_store.specs.Contents.{Contents, tree_at}
use Rattle.lk_derive_iota.proofs.Fitting.{some_applied, none_applied}
use Rattle.lk_derive_iota.proofs.PremiseHeads.{premise_ctor}
use Rattle.lk_derive_iota.proofs.recursors.at_premise.Goals as goal

pub at_constructor-requires-clause-at : goal.at_constructor-requires-clause-at
at_constructor-requires-clause-at g c =
    let d : Contents = g.D.Terms.contents c.args.derives.now in
    let basis = (g.D.Looks.sight (g.D.Terms.rest c.args.derives.now)).basis in
    let m : Tree = tree_at d c.args.m in
    let s = some_applied d basis.library (args m) c.in-Some.field-0 (app_at basis.place (head m) (args m)) c.in-Some.ensures.is in
    premise_ctor m c.requires.at s.0 s.1

pub at_structure-requires-clause-headless : goal.at_structure-requires-clause-headless
at_structure-requires-clause-headless g c =
    let d : Contents = g.D.Terms.contents c.args.derives.now in
    let basis = (g.D.Looks.sight (g.D.Terms.rest c.args.derives.now)).basis in
    let m : Tree = tree_at d c.args.m in
    none_applied d basis.library (args m) (app_at basis.place (head m) (args m)) c.in-None.ensures.is
