use Rattle.lk_tree.specs.Tree.{Tree}
use Rattle.lk_tree.specs.Spine.{head, args}
use Rattle.lk_constructor.specs.Looking.{app_at}
use Rattle.lk_store.specs.Contents.{Contents, tree_at}
use Rattle.lk_derive_iota.proofs.Fitting.{none_applied}
use Rattle.lk_derive_iota.proofs.RuleRuns.{none_stays}
use Rattle.lk_derive_iota.proofs.ctors.at_constructor.Goals as goal

pub returns-in-None-clause-whole : goal.returns-in-None-clause-whole
returns-in-None-clause-whole g c =
    let d : Contents = g.D.Terms.contents c.args.derives.now in
    let w = (g.D.Looks.sight (g.D.Terms.rest c.args.derives.now)).basis.place in
    let l = (g.D.Looks.sight (g.D.Terms.rest c.args.derives.now)).basis.library in
    let x : Tree = tree_at d c.args.x in
    none_stays (app_at w (head x) (args x)) (none_applied d l (args x) (app_at w (head x) (args x)) c.in-None.ensures.is) c.requires.at
