use Rattle.std.proofs.Common.{◌≡◌, map, refl, ap, ◌∙◌}
use Rattle.lk_tree.specs.Spine.{apply}
use Rattle.lk_store.specs.Contents.{tree_at}
use Rattle.lk_inductive.specs.Recursors.{inductions}
use Rattle.lk_block.specs.Shapes.{field_at, shape_at}
use Rattle.lk_recursor.proofs.Applied.{applied_then}
use Rattle.lk_recursor.proofs.rules.minor_applied.Goals as goal

pub returns-clause-ok : goal.returns-clause-ok
returns-clause-ok g c =
    let before = g.T.Terms.contents c.args.terms.now in
    let first = g.T.Terms.contents c.recursive_terms.new.terms in
    let second = g.T.Terms.contents c.apply.new.terms in
    let after = g.T.Terms.contents c.apply-2.new.terms in
    let p = shape_at before c.args.shape.now in
    let m = tree_at before c.args.minor in
    let xs = map (tree_at before) c.args.variables.now in
    let given = c.in_ok-inductions.ensures in
    let found = c.in_ok-inductions.inductions.items in
    let front = c.in_ok-at_fields.ensures in
    let made = c.in_ok-made.ensures.ok in
    let front_is : tree_at second c.in_ok-at_fields.at_fields ≡ apply m xs =
    applied_then before first given.keeps c.args.variables.now c.args.variables.now (tree_at second c.in_ok-at_fields.at_fields) (tree_at first c.args.minor) m refl c.requires.variables_in (given.keeps.trees.same c.args.minor c.requires.minor_in) front.ok.is in
    record {
      known = made.known;
      is =
          applied_then first second front.keeps c.deref-2.result.now found (tree_at after c.in_ok-made.made) (tree_at second c.in_ok-at_fields.at_fields) (apply m xs) c.deref-2.ensures.value given.ok.known front_is made.is
          ∙ ap (apply (apply m xs)) (given.ok.are ∙ ap (λ fs. inductions p (map (field_at before) fs)) c.deref.ensures.value);
    }
