use Rattle.std.proofs.Common.{rules, ◌≡◌, ◌++◌, ◌∷◌, [], List, map, ap, sym, ◌∙◌}
use Rattle.lk_tree.specs.Tree.{Tree}
use Rattle.std.proofs.lemmas.List.Elements.{All-rest}
use Rattle.lk_store.specs.Contents.{tree_at}
use Rattle.lk_store.proofs.Extending.{Extends-trans}
use Rattle.lk_inductive.specs.Block as plain
use Rattle.lk_inductive.specs.Recursors.{motive_type}
use Rattle.lk_block.specs.Shapes.{type_shape_at, shape_at, IsTypeShapeIn}
use Rattle.lk_lists.proofs.Lists.{first_has}
use Rattle.lk_recursor.proofs.Lists.{pushed_more, pushed_known}
use Rattle.lk_block.proofs.Shaping.{type-steady, type-known, shape-steady}
use Rattle.lk_recursor.proofs.Steady.{levels-steady}
use Rattle.lk_recursor.proofs.heads.types_of_motives.Goals as goal

pub type_of_motive-requires-clause-levels_are : goal.type_of_motive-requires-clause-levels_are
type_of_motive-requires-clause-levels_are g c =
    levels-steady (g.T.Terms.contents c.args.terms.now) (g.T.Terms.contents c.types.terms) c.types.invariant.keeps c.args.shape.now c.args.own_levels c.requires.shape_in c.requires.levels_are

pub type_of_motive-requires-clause-type_in : goal.type_of_motive-requires-clause-type_in
type_of_motive-requires-clause-type_in g c =
    let before = g.T.Terms.contents c.args.terms.now in
    let was = c.types.invariant in
    type-known before (g.T.Terms.contents c.types.terms) was.keeps c.in-Some.of.now (first_has (IsTypeShapeIn before) c.types.left.now c.in-Some.of.now c.in-Some.others.now c.in-Some.ensures.cases.0 was.left_in)

pub types-preserved : goal.types-preserved
types-preserved g c =
    let before = g.T.Terms.contents c.args.terms.now in
    let now = g.T.Terms.contents c.types.terms in
    let after = g.T.Terms.contents c.type_of_motive.new.terms in
    let was = c.types.invariant in
    let s = c.args.shape.now in
    let x = c.in-Some.of.now in
    let p = shape_at before s in
    let split = c.in-Some.ensures.cases.0 in
    let known = first_has (IsTypeShapeIn before) c.types.left.now x c.in-Some.others.now split was.left_in in
    let made = c.in_ok-made.ensures in
    let F : List plain.TypeShape → List Tree = map (motive_type p) in
    let pushed : c.push.new.self.items ≡ c.types.found.items ++ c.in_ok-made.made ∷ [] = search rules in
    let is : tree_at after c.in_ok-made.made ≡ motive_type p (type_shape_at before x) =
    made.ok.is ∙ ap (λ (q : plain.Shape). motive_type q (type_shape_at now x)) (shape-steady before now was.keeps s c.requires.shape_in) ∙ ap (motive_type p) (type-steady before now was.keeps x known) in
    record {
      keeps = Extends-trans before now after was.keeps made.keeps;
      same_rest = made.rest ∙ was.same_rest;
      left_in = All-rest (IsTypeShapeIn before) x c.in-Some.others.now c.types.left.now split was.left_in;
      found_in = pushed_known now after c.types.found.items c.push.new.self.items c.in_ok-made.made made.keeps was.found_in pushed made.ok.known;
      leads =
          pushed_more now after c.types.found.items c.push.new.self.items c.in_ok-made.made (F (map (type_shape_at before) c.types.left.now)) (F (map (type_shape_at before) c.in-Some.others.now)) (F p.types)
          made.keeps was.found_in pushed was.leads (ap (λ ys. F (map (type_shape_at before) ys)) split ∙ ap (λ (t : Tree). t ∷ F (map (type_shape_at before) c.in-Some.others.now)) (sym is));
    }
