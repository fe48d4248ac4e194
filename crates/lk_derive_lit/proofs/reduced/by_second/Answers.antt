use Rattle.std.proofs.Common.{◌<◌, length, subst}
use Rattle.std.specs.Prelude.{option_map, IfSome}
use Rattle.lk_tree.specs.Tree.{Tree}
use Rattle.lk_rulebook.specs.Place.{Place}
use Rattle.lk_rulebook.specs.Claims.{equals}
use Rattle.lk_questions.specs.LiteralLines.{step_second}
use Rattle.lk_store.specs.Contents.{Contents, tree_at}
use Rattle.lk_step.specs.Computed.{AddsNothing, AddsValue, AddsStep}
use Rattle.lk_step.proofs.Moving.{tree_in}
use Rattle.lk_derive_lit.proofs.Literal.{second_run, second_none, ToldAt, told_second}
use Rattle.lk_derive_lit.proofs.reduced.by_second.Goals as goal

pub add_operation-requires-clause-fine : goal.add_operation-requires-clause-fine
add_operation-requires-clause-fine g c = c.requires.pair.right

pub add_operation-requires-clause-run : goal.add_operation-requires-clause-run
add_operation-requires-clause-run g c =
    let t = tree_at (g.D.Terms.contents c.args.derives.now) in
    let w : Place = (g.D.Looks.sight (g.D.Terms.rest c.args.derives.now)).basis.place in
    second_run w (t c.args.a) (t c.args.b) c.args.enough c.requires.run

pub returns-in-None-clause-tells : goal.returns-in-None-clause-tells
returns-in-None-clause-tells g c =
    let old : Contents = g.D.Terms.contents c.args.derives.now in
    let d : Contents = g.D.Terms.contents c.add_operation.new.derives in
    let w : Place = (g.D.Looks.sight (g.D.Terms.rest c.args.derives.now)).basis.place in
    let adds : AddsNothing w c.empty_row-row.result c.add_operation.new.row (tree_at old c.args.b) =
    subst (λ o. AddsStep w old d c.empty_row-row.result c.add_operation.new.row (tree_at old c.args.b) (option_map (tree_at d) o)) c.in-None.is c.in_ok-value.ensures.told in
    second_none w (tree_at old c.args.a) (tree_at old c.args.b) adds.nothing

pub returns-in_ok-add_same-in-Some-clause-tells : goal.returns-in_ok-add_same-in-Some-clause-tells
returns-in_ok-add_same-in-Some-clause-tells g c =
    let old : Contents = g.D.Terms.contents c.args.derives.now in
    let d : Contents = g.D.Terms.contents c.add_operation.new.derives in
    let w : Place = (g.D.Looks.sight (g.D.Terms.rest c.args.derives.now)).basis.place in
    let x = c.add_operation.ensures.leaves in
    let a : Tree = tree_at old c.args.a in
    let b : Tree = tree_at old c.args.b in
    let adds : AddsValue w old d c.empty_row-row.result c.add_operation.new.row b (tree_at d c.in-Some.value) =
    subst (λ o. AddsStep w old d c.empty_row-row.result c.add_operation.new.row b (option_map (tree_at d) o)) c.in-Some.is c.in_ok-value.ensures.told in
    let known : c.in-Some.value < length d.trees = subst (λ o. IfSome o (λ u. u < length d.trees)) c.in-Some.is c.in_ok-value.ensures.known in
    let told : ToldAt w d (step_second a b) (equals a b) c.add_same.new.row =
    told_second w old d c.empty_row-row.result c.add_operation.new.row c.add_same.new.row c.args.a c.args.b c.in-Some.value a b c.args.enough (x.keeps.trees.same c.args.a c.requires.a_in) (x.keeps.trees.same c.args.b c.requires.b_in)
    (tree_in x c.args.a c.requires.a_in) (tree_in x c.args.b c.requires.b_in) known c.empty_row-row.ensures c.requires.pair adds c.in_ok-add_same-in-Some.ensures c.requires.none.nothing c.requires.run in
    told.tells

pub returns-in_ok-add_same-in-Some-clause-known : goal.returns-in_ok-add_same-in-Some-clause-known
returns-in_ok-add_same-in-Some-clause-known g c =
    let old : Contents = g.D.Terms.contents c.args.derives.now in
    let d : Contents = g.D.Terms.contents c.add_operation.new.derives in
    let w : Place = (g.D.Looks.sight (g.D.Terms.rest c.args.derives.now)).basis.place in
    let x = c.add_operation.ensures.leaves in
    let a : Tree = tree_at old c.args.a in
    let b : Tree = tree_at old c.args.b in
    let adds : AddsValue w old d c.empty_row-row.result c.add_operation.new.row b (tree_at d c.in-Some.value) =
    subst (λ o. AddsStep w old d c.empty_row-row.result c.add_operation.new.row b (option_map (tree_at d) o)) c.in-Some.is c.in_ok-value.ensures.told in
    let known : c.in-Some.value < length d.trees = subst (λ o. IfSome o (λ u. u < length d.trees)) c.in-Some.is c.in_ok-value.ensures.known in
    let told : ToldAt w d (step_second a b) (equals a b) c.add_same.new.row =
    told_second w old d c.empty_row-row.result c.add_operation.new.row c.add_same.new.row c.args.a c.args.b c.in-Some.value a b c.args.enough (x.keeps.trees.same c.args.a c.requires.a_in) (x.keeps.trees.same c.args.b c.requires.b_in)
    (tree_in x c.args.a c.requires.a_in) (tree_in x c.args.b c.requires.b_in) known c.empty_row-row.ensures c.requires.pair adds c.in_ok-add_same-in-Some.ensures c.requires.none.nothing c.requires.run in
    told.known
