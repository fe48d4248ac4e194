use Rattle.std.proofs.Common.{◌≡◌, map, ap, ◌∙◌}
use Rattle.lk_tree.specs.Tree.{Tree, app}
use Rattle.lk_tree.specs.Spine.{apply}
use Rattle.lk_store.specs.Contents.{name_at, tree_at}
use Rattle.lk_store.proofs.Extending.{Extends-trans}
use Rattle.lk_block.specs.Shapes.{shape_at}
use Rattle.lk_recursor.specs.Recursive.{head_in}
use Rattle.lk_recursor.proofs.Applied.{applied_then}
use Rattle.lk_recursor.proofs.recursive.head_at.Goals as goal

pub returns-clause-ok : goal.returns-clause-ok
returns-clause-ok g c =
    let before = g.T.Terms.contents c.args.terms.now in
    let first = g.T.Terms.contents c.head_of.new.terms in
    let second = g.T.Terms.contents c.apply.new.terms in
    let indices = c.args.recursion.now.indices.items in
    let H = head_in c.args.heading.now (shape_at before c.args.shape.now)
    (name_at before c.args.recursion.now.name) in
    let is = map (tree_at before) indices in
    let head = c.in_ok-head.ensures in
    let front = c.in_ok-at_indices.ensures in
    let made = c.in_ok-made.ensures.ok in
    let front_is : tree_at second c.in_ok-at_indices.at_indices ≡ apply H is =
    applied_then before first head.keeps c.deref.result.now indices
    (tree_at second c.in_ok-at_indices.at_indices) (tree_at first c.in_ok-head.head) H
    c.deref.ensures.value c.requires.recursion_in.indices_in head.ok.is front.ok.is in
    let subject_is = (Extends-trans before first second head.keeps front.keeps).trees.same c.args.subject c.requires.subject_in in
    record {
      known = made.known;
      is = made.is ∙ ap (λ (t : Tree). app t (tree_at second c.args.subject)) front_is
          ∙ ap (app (apply H is)) subject_is;
    }
