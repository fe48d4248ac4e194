use Rattle.std.proofs.Common.{◌<◌, length, drop, ap, sym, ◌∙◌}
use Rattle.std.proofs.lemmas.List.Elements.{All-same, All-drop}
use Rattle.lk_store.specs.Contents.{name_at}
use Rattle.lk_block.specs.Shapes.{shape_at, IsTypeShapeIn}
use Rattle.lk_lists.proofs.Lists.{rest_have, first_has}
use Rattle.lk_recursor.specs.Fronts.{read_by}
use Rattle.lk_recursor.proofs.Named.{names_more, named_next}
use Rattle.lk_recursor.proofs.own.named.Goals as goal

pub types-preserved : goal.types-preserved
types-preserved g c =
    let s = g.T.Terms.contents c.args.terms.now in
    let w = read_by s c.args.shared.now.shape.now c.args.shared.now.front.now in
    let p = shape_at s c.args.shared.now.shape.now in
    let inv = c.types.invariant in
    let names_split = c.in-Some-split_first.ensures.cases.0 in
    let types_split = c.in-Some.ensures.cases.0 in
    let after = c.past_minors-minors.ensures ∙ ap (λ cs. drop (length cs) c.types.minors.now) c.deref.ensures.value in
    record {
      names_are = names_more s w c.types.names.now c.in-Some-split_first.more_names.now c.types.types.now c.in-Some.more_types.now c.in-Some-split_first.own.now c.in-Some.of.now names_split types_split inv.names_are;
      types_in = rest_have (IsTypeShapeIn s) c.types.types.now c.in-Some.of.now c.in-Some.more_types.now types_split inv.types_in;
      minors_in = All-same (λ x. x < length s.trees) c.past_minors-minors.result.now (drop (length c.in-Some.of.now.constructors.items) c.types.minors.now) after (All-drop (λ x. x < length s.trees) (length c.in-Some.of.now.constructors.items) c.types.minors.now inv.minors_in);
      same = inv.same ∙ named_next s w p (name_at s c.args.name) c.types.names.now c.in-Some-split_first.more_names.now c.types.types.now c.in-Some.more_types.now c.types.minors.now c.in-Some-split_first.own.now c.in-Some.of.now names_split types_split inv.names_are
          c.past_minors-minors.result.now after (sym c.names_equal.ensures ∙ c.if-names_equal.false);
    }

pub returns-then-names_equal-clause-known : goal.returns-then-names_equal-clause-known
returns-then-names_equal-clause-known g c =
    let s = g.T.Terms.contents c.args.terms.now in
    let inv = c.types.invariant in
    record { of_in = first_has (IsTypeShapeIn s) c.types.types.now c.in-Some.of.now c.in-Some.more_types.now c.in-Some.ensures.cases.0 inv.types_in; minors_in = inv.minors_in }
