use Rattle.std.proofs.Common.{map, ap, ◌∙◌}
use Rattle.lk_tree.specs.Tree.{local}
use Rattle.lk_tree.specs.Spine.{apply}
use Rattle.lk_store.specs.Contents.{name_at, tree_at}
use Rattle.lk_inductive.specs.Recursors.{at_params}
use Rattle.lk_block.specs.Shapes.{shape_at}
use Rattle.lk_recursor.proofs.recursor.major_of.Goals as goal

pub returns-clause-ok : goal.returns-clause-ok
returns-clause-ok g c =
    let before = g.T.Terms.contents c.args.terms.now in
    let p = shape_at before c.args.shape.now in
    let domain = c.in_ok-domain.ensures.ok in
    let made = c.in_ok-made.ensures.ok in
    let n = c.args.front.now.major in
    let front = at_params p (name_at before c.args.of.now.name) in
    record {
      known = made.known;
      is =
          made.is
          ∙ ap (local n) (domain.is ∙ ap (λ ys. apply front (map (tree_at before) ys)) c.deref.ensures.value)
          ∙ ap (λ k. local k (apply front (map (tree_at before) c.args.of.now.indices.items))) c.requires.front_is.major_is;
    }
