use Rattle.std.proofs.Common.{◌≡◌, map, refl, ap, ◌∙◌}
use Rattle.lk_tree.specs.Tree.{Tree, app}
use Rattle.lk_tree.specs.Spine.{apply}
use Rattle.lk_store.specs.Contents.{name_at, tree_at}
use Rattle.lk_store.proofs.Extending.{Extends-trans}
use Rattle.lk_inductive.specs.Recursors.{motive_of}
use Rattle.lk_block.specs.Shapes.{shape_at}
use Rattle.lk_recursor.proofs.Applied.{applied_then}
use Rattle.lk_recursor.proofs.heads.motive_at.Goals as goal

pub returns-clause-ok : goal.returns-clause-ok
returns-clause-ok g c =
    let before = g.T.Terms.contents c.args.terms.now in
    let first = g.T.Terms.contents c.motive_for.new.terms in
    let second = g.T.Terms.contents c.apply.new.terms in
    let after = g.T.Terms.contents c.make.new.self in
    let C = motive_of (shape_at before c.args.shape.now) (name_at before c.args.name) in
    let motive = c.in_ok-motive.ensures in
    let front = c.in_ok-front.ensures in
    let made = c.in_ok-made.ensures.ok in
    let front_is : tree_at second c.in_ok-front.front ≡ apply C (map (tree_at before) c.args.indices.now) =
    applied_then before first motive.keeps c.args.indices.now c.args.indices.now (tree_at second c.in_ok-front.front) (tree_at first c.in_ok-motive.motive) C refl c.requires.indices_in motive.ok.is front.ok.is in
    let subject_is = (Extends-trans before first second motive.keeps front.keeps).trees.same c.args.subject c.requires.subject_in in
    record {
      known = made.known;
      is = made.is ∙ ap (λ (t : Tree). app t (tree_at second c.args.subject)) front_is ∙ ap (app (apply C (map (tree_at before) c.args.indices.now))) subject_is;
    }
