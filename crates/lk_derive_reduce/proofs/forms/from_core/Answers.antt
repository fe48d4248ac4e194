use Rattle.std.proofs.Common.{sym, subst}
use Rattle.std.specs.Prelude.{option_map}
use Rattle.lk_tree.specs.Tree.{Tree}
use Rattle.lk_rulebook.specs.Place.{Place}
use Rattle.lk_rulebook.specs.WellStated.{WellStated}
use Rattle.lk_store.specs.Contents.{Contents, tree_at}
use Rattle.lk_step.specs.Computed.{AddsNothing, AddsValue, AddsStep}
use Rattle.lk_step.specs.Parts.{Chains}
use Rattle.lk_derive_reduce.proofs.FormRuns.{step_within, operation_whole, nothing_at, at_grown}
use Rattle.lk_derive_reduce.proofs.forms.from_core.Goals as goal

pub add_operation-requires-clause-fine : goal.add_operation-requires-clause-fine
add_operation-requires-clause-fine g c = c.requires.at.core_fine

pub add_operation-requires-clause-run : goal.add_operation-requires-clause-run
add_operation-requires-clause-run g c =
    let old : Contents = g.D.Terms.contents c.args.derives.now in
    let w : Place = (g.D.Looks.sight (g.D.Terms.rest c.args.derives.now)).basis.place in
    step_within w old c.args.row.now c.args.enough (tree_at old c.args.e) (tree_at old c.args.core) c.requires.at

pub returns-in_ok-chain-in-Some-clause-whole : goal.returns-in_ok-chain-in-Some-clause-whole
returns-in_ok-chain-in-Some-clause-whole g c =
    let old : Contents = g.D.Terms.contents c.args.derives.now in
    let d : Contents = g.D.Terms.contents c.add_operation.new.derives in
    let w : Place = (g.D.Looks.sight (g.D.Terms.rest c.args.derives.now)).basis.place in
    let x = c.add_operation.ensures.leaves in
    let e : Tree = tree_at old c.args.e in
    let k : Tree = tree_at old c.args.core in
    let v : Tree = tree_at d c.in-Some.value in
    let adds : AddsValue w old d c.args.row.now c.add_operation.new.row k v =
    subst (λ o. AddsStep w old d c.args.row.now c.add_operation.new.row k (option_map (tree_at d) o)) c.in-Some.is c.in_ok-value.ensures.told in
    let one : Chains d c.add_operation.new.row c.chain.new.row e (tree_at d c.args.core) v =
    subst (λ z. Chains d c.add_operation.new.row c.chain.new.row z (tree_at d c.args.core) v) (x.keeps.trees.same c.args.e c.requires.e_in) c.in_ok-chain-in-Some.ensures in
    let two : Chains d c.add_operation.new.row c.chain.new.row e k v =
    subst (λ z. Chains d c.add_operation.new.row c.chain.new.row e z v) (x.keeps.trees.same c.args.core c.requires.core_in) one in
    operation_whole w c.args.enough old d c.args.row.now c.add_operation.new.row c.chain.new.row e k v c.requires.stated c.requires.at adds two

pub uncomputed_row-requires-clause-stated : goal.uncomputed_row-requires-clause-stated
uncomputed_row-requires-clause-stated g c = subst WellStated (sym c.add_operation.ensures.leaves.place) c.requires.stated

pub uncomputed_row-requires-clause-at : goal.uncomputed_row-requires-clause-at
uncomputed_row-requires-clause-at g c =
    let old : Contents = g.D.Terms.contents c.args.derives.now in
    let d : Contents = g.D.Terms.contents c.add_operation.new.derives in
    let w : Place = (g.D.Looks.sight (g.D.Terms.rest c.args.derives.now)).basis.place in
    let w1 : Place = (g.D.Looks.sight (g.D.Terms.rest c.add_operation.new.derives)).basis.place in
    let x = c.add_operation.ensures.leaves in
    let adds : AddsNothing w c.args.row.now c.add_operation.new.row (tree_at old c.args.core) =
    subst (λ o. AddsStep w old d c.args.row.now c.add_operation.new.row (tree_at old c.args.core) (option_map (tree_at d) o)) c.in-None.is c.in_ok-value.ensures.told in
    at_grown w w1 old d c.args.row.now c.add_operation.new.row c.args.enough (tree_at old c.args.e) (tree_at d c.args.e) (tree_at old c.args.core) (tree_at d c.args.core) x.place
    (x.keeps.trees.same c.args.e c.requires.e_in) (x.keeps.trees.same c.args.core c.requires.core_in) adds.same x.keeps c.requires.at

pub uncomputed_row-requires-clause-nothing : goal.uncomputed_row-requires-clause-nothing
uncomputed_row-requires-clause-nothing g c =
    let old : Contents = g.D.Terms.contents c.args.derives.now in
    let d : Contents = g.D.Terms.contents c.add_operation.new.derives in
    let w : Place = (g.D.Looks.sight (g.D.Terms.rest c.args.derives.now)).basis.place in
    let w1 : Place = (g.D.Looks.sight (g.D.Terms.rest c.add_operation.new.derives)).basis.place in
    let x = c.add_operation.ensures.leaves in
    let adds : AddsNothing w c.args.row.now c.add_operation.new.row (tree_at old c.args.core) =
    subst (λ o. AddsStep w old d c.args.row.now c.add_operation.new.row (tree_at old c.args.core) (option_map (tree_at d) o)) c.in-None.is c.in_ok-value.ensures.told in
    nothing_at w w1 (tree_at old c.args.core) (tree_at d c.args.core) c.args.row.now c.add_operation.new.row x.place (x.keeps.trees.same c.args.core c.requires.core_in) adds
