use Rattle.std.proofs.Common.{map, refl, ap, ◌∙◌}
use Rattle.lk_tree.specs.Tree.{const, param}
use Rattle.lk_store.specs.Contents.{name_at, tree_at}
use Rattle.lk_store.proofs.Extending.{Extends-trans}
use Rattle.lk_inductive.specs.Recursors.{at_params}
use Rattle.lk_block.specs.Shapes.{shape_at}
use Rattle.lk_recursor.proofs.Applied.{applied_then}
use Rattle.lk_recursor.proofs.heads.at_parameters.Goals as goal

pub returns-clause-ok : goal.returns-clause-ok
returns-clause-ok g c =
    let before = g.T.Terms.contents c.args.terms.now in
    let first = g.T.Terms.contents c.make.new.self in
    let second = g.T.Terms.contents c.apply.new.terms in
    let after = g.T.Terms.contents c.apply-2.new.terms in
    let p = shape_at before c.args.shape.now in
    let name = name_at before c.args.name in
    let constant = c.in_ok-constant.ensures in
    let front = c.in_ok-front.ensures in
    let made = c.in_ok-made.ensures.ok in
    record {
      known = made.known;
      is =
          applied_then before second (Extends-trans before first second constant.keeps front.keeps) c.args.arguments.now c.args.arguments.now (tree_at after c.in_ok-made.made) (tree_at second c.in_ok-front.front) (at_params p name) refl c.requires.arguments_in
          (applied_then before first constant.keeps c.deref.result.now c.args.shape.now.parameters.items (tree_at second c.in_ok-front.front) (tree_at first c.in_ok-constant.constant) (const name (map param p.levels)) c.deref.ensures.value c.requires.shape_in.parameters_in
          (constant.ok.is ∙ ap (const name) c.requires.levels_are.is) front.ok.is)
          made.is;
    }
