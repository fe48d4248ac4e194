use Rattle.std.proofs.Common.{◌<◌, ◌∷◌, length, map, sym, ap, ◌∙◌}
use Rattle.std.proofs.lemmas.List.Elements.{All-rest}
use Rattle.lk_store.specs.Contents.{name_at, tree_at}
use Rattle.lk_inductive.specs.Recursors.{motive_in}
use Rattle.lk_block.specs.Shapes.{type_shape_at, IsTypeShapeIn}
use Rattle.lk_recursor.proofs.Applied.{motive_passed}
use Rattle.lk_recursor.proofs.heads.find_motive.Goals as goal

pub types-preserved : goal.types-preserved
types-preserved g c =
    let d = g.T.Terms.contents c.args.terms.now in
    let x = c.in-Some.of.now in
    let m = c.in-Some-split_first.motive.now in
    let T = name_at d c.args.name in
    let split = c.in-Some.ensures.cases.0 in
    let split_motives = c.in-Some-split_first.ensures.cases.0 in
    record {
      types_in = All-rest (IsTypeShapeIn d) x c.in-Some.more_types.now c.types.types_left.now split c.types.invariant.types_in;
      motives_in = All-rest (λ e. e < length d.trees) m c.in-Some-split_first.more_motives.now c.types.motives_left.now split_motives c.types.invariant.motives_in;
      same =
          sym (motive_passed (map (type_shape_at d) c.in-Some.more_types.now) (type_shape_at d x) (map (tree_at d) c.in-Some-split_first.more_motives.now) (tree_at d m) T c.names_equal.result c.names_equal.ensures c.if-names_equal.false)
          ∙ sym (ap (λ ys. motive_in (map (type_shape_at d) ys) (map (tree_at d) c.types.motives_left.now) T) split ∙ ap (λ ys. motive_in (type_shape_at d x ∷ map (type_shape_at d) c.in-Some.more_types.now) (map (tree_at d) ys) T) split_motives)
          ∙ c.types.invariant.same;
    }
