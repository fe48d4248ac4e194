use Rattle.std.proofs.Common.{◌≡◌, ◌++◌, map, ap, ◌∙◌}
use Rattle.std.proofs.lemmas.List.Elements.{All-rest}
use Rattle.lk_store.specs.Contents.{tree_at}
use Rattle.lk_store.proofs.Extending.{Extends-trans}
use Rattle.lk_inductive.specs.Block as plain
use Rattle.lk_inductive.specs.Recursors.{minor_type, minor_types}
use Rattle.lk_block.specs.Shapes.{type_shape_at, shape_at, IsTypeShapeIn}
use Rattle.lk_lists.proofs.Lists.{first_has}
use Rattle.lk_recursor.proofs.FieldLists.{added_more}
use Rattle.lk_block.proofs.Shaping.{shape-steady, type-steady, type-known}
use Rattle.lk_recursor.proofs.Steady.{heads-steady}
use Rattle.lk_recursor.proofs.minors.types_of_minors.Goals as goal

pub add_minors-requires-clause-heads_are : goal.add_minors-requires-clause-heads_are
add_minors-requires-clause-heads_are g c =
    heads-steady (g.T.Terms.contents c.args.terms.now) (g.T.Terms.contents c.types.terms) c.types.invariant.keeps c.args.shape.now c.args.heads.now c.requires.shape_in c.requires.heads_are

pub add_minors-requires-clause-type_in : goal.add_minors-requires-clause-type_in
add_minors-requires-clause-type_in g c =
    let before = g.T.Terms.contents c.args.terms.now in
    let was = c.types.invariant in
    type-known before (g.T.Terms.contents c.types.terms) was.keeps c.in-Some.of.now (first_has (IsTypeShapeIn before) c.types.left.now c.in-Some.of.now c.in-Some.others.now c.in-Some.ensures.cases.0 was.left_in)

pub types-preserved : goal.types-preserved
types-preserved g c =
    let before = g.T.Terms.contents c.args.terms.now in
    let now = g.T.Terms.contents c.types.terms in
    let after = g.T.Terms.contents c.add_minors.new.terms in
    let was = c.types.invariant in
    let s = c.args.shape.now in
    let x = c.in-Some.of.now in
    let p = shape_at before s in
    let t = type_shape_at before x in
    let split = c.in-Some.ensures.cases.0 in
    let known = first_has (IsTypeShapeIn before) c.types.left.now x c.in-Some.others.now split was.left_in in
    let made = c.in_ok-add_minors.ensures in
    let found = map (tree_at now) c.types.found.items in
    let more = map (tree_at after) c.add_minors.new.found.items in
    let is : more ≡ found ++ map (minor_type p t) t.ctors =
    made.ok
    ∙ ap (λ (q : plain.Shape). found ++ map (minor_type q (type_shape_at now x)) (type_shape_at now x).ctors) (shape-steady before now was.keeps s c.requires.shape_in)
    ∙ ap (λ (u : plain.TypeShape). found ++ map (minor_type p u) u.ctors) (type-steady before now was.keeps x known) in
    record {
      keeps = Extends-trans before now after was.keeps made.keeps;
      same_rest = made.rest ∙ was.same_rest;
      left_in = All-rest (IsTypeShapeIn before) x c.in-Some.others.now c.types.left.now split was.left_in;
      found_in = made.known;
      leads =
          added_more found more (map (minor_type p t) t.ctors) (minor_types p (map (type_shape_at before) c.in-Some.others.now)) (minor_types p (map (type_shape_at before) c.types.left.now)) (minor_types p p.types)
          was.leads (ap (λ ys. minor_types p (map (type_shape_at before) ys)) split) is;
    }
