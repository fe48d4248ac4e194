use Rattle.lk_tree.specs.Tree.{Tree}
use Rattle.lk_tree.specs.Spine.{head, args}
use Rattle.lk_step.specs.Reducing.{beta_reduct}
use Rattle.lk_rulebook.specs.Place.{Place}
use Rattle.lk_written.specs.Line.{beta_rule}
use Rattle.lk_store.specs.Contents.{Contents, tree_at}
use Rattle.lk_derive_reduce.proofs.CoreRuns.{beta_opens}
use Rattle.lk_derive_reduce.proofs.CoreRows.{opens_within, opens_whole}
use Rattle.lk_derive_reduce.proofs.bindings.beta_row.Goals as goal

pub step_then_core-requires-clause-answered : goal.step_then_core-requires-clause-answered
step_then_core-requires-clause-answered g c =
    let t = tree_at (g.D.Terms.contents c.args.derives.now) in
    let w : Place = (g.D.Looks.sight (g.D.Terms.rest c.args.derives.now)).basis.place in
    let w' : Place = (g.D.Looks.sight (g.D.Terms.rest c.reduct_of.new.derives)).basis.place in
    let r : Tree = beta_reduct (head (t c.args.e)) (args (t c.args.e)) in
    opens_within w w' c.args.enough beta_rule (t c.args.e) r (tree_at (g.D.Terms.contents c.reduct_of.new.derives) c.in_ok-next.next)
    c.reduct_of.ensures.leaves.place c.in_ok-next.ensures.made.is
    (beta_opens w c.args.enough (t c.args.e) c.requires.applied c.requires.lambda c.requires.claimed)

pub returns-clause-whole : goal.returns-clause-whole
returns-clause-whole g c =
    let t = tree_at (g.D.Terms.contents c.args.derives.now) in
    let m : Contents = g.D.Terms.contents c.reduct_of.new.derives in
    let d : Contents = g.D.Terms.contents c.step_then_core.new.derives in
    let w : Place = (g.D.Looks.sight (g.D.Terms.rest c.args.derives.now)).basis.place in
    let w' : Place = (g.D.Looks.sight (g.D.Terms.rest c.reduct_of.new.derives)).basis.place in
    let r : Tree = beta_reduct (head (t c.args.e)) (args (t c.args.e)) in
    opens_whole w w' c.args.enough d c.args.row.now c.step_then_core.new.row beta_rule (t c.args.e) (tree_at m c.args.e) r (tree_at m c.in_ok-next.next)
    c.reduct_of.ensures.leaves.place (c.reduct_of.ensures.leaves.keeps.trees.same c.args.e c.requires.e_in) c.in_ok-next.ensures.made.is
    c.requires.stated c.requires.empty c.requires.claimed
    (beta_opens w c.args.enough (t c.args.e) c.requires.applied c.requires.lambda c.requires.claimed) c.in_ok-step_then_core.ensures.goes
