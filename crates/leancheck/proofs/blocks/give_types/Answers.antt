use Rattle.std.proofs.Common.{◌<◌, [], map, All, ap, sym, subst, ◌∙◌}
use Rattle.lk_store.specs.Contents.{Contents, tree_at}
use Rattle.lk_env.specs.Units.{block_at, recursor_at, IsTypeIn, IsRecursorIn}
use Rattle.lk_env.specs.declared.entry.Partial.TheVariants.{Types}
use Rattle.lk_inductive.specs.Block.{AreLocals}
use Rattle.lk_block.specs.Parts.{parts_at, ArePartsIn}
use Rattle.lk_declaration.specs.Checked.{IsCheckOutcome}
use Rattle.lk_block.specs.Stages.{sorts_stage}
use Rattle.leancheck.proofs.Staging.{moved_four, same_table, same_place, same_basis}
use Rattle.leancheck.proofs.blocks.give_types.Goals as goal

pub check_from_sorts-requires-clause-types_in : goal.check_from_sorts-requires-clause-types_in
check_from_sorts-requires-clause-types_in g c = subst (λ (d : Contents). All (IsTypeIn d) c.args.block.now.types.items) (sym c.give.ensures.contents) c.requires.types_in

pub check_from_sorts-requires-clause-stated_in : goal.check_from_sorts-requires-clause-stated_in
check_from_sorts-requires-clause-stated_in g c = subst (λ (d : Contents). All (IsRecursorIn d) c.args.block.now.recursors.value.items) (sym c.give.ensures.contents) c.requires.stated_in

pub check_from_sorts-requires-clause-parts_in : goal.check_from_sorts-requires-clause-parts_in
check_from_sorts-requires-clause-parts_in g c = subst (λ (d : Contents). ArePartsIn d c.args.parts) (sym c.give.ensures.contents) c.requires.parts_in

pub check_from_sorts-requires-clause-locals : goal.check_from_sorts-requires-clause-locals
check_from_sorts-requires-clause-locals g c = subst (λ (d : Contents). AreLocals (map (tree_at d) c.args.parts.parameters.items)) (sym c.give.ensures.contents) c.requires.locals

pub check_from_sorts-requires-clause-place : goal.check_from_sorts-requires-clause-place
check_from_sorts-requires-clause-place g c = same_place c.give.ensures.standing ∙ ap (λ b. g.A.Asks.places b Types []) (sym (same_basis c.give.ensures.standing))

pub returns-clause-outcome : goal.returns-clause-outcome
returns-clause-outcome g c fuel enough =
    moved_four (λ u ps (d : Contents) n. IsCheckOutcome (sorts_stage u ps fuel (block_at d c.args.block.now) (map (recursor_at d) c.args.block.now.recursors.value.items) (parts_at d c.args.parts) n) c.check_from_sorts.result)
    (same_table c.give.ensures.standing) (ap (g.A.Asks.places) (same_basis c.give.ensures.standing)) c.give.ensures.contents c.give.ensures.left
    (c.check_from_sorts.ensures.outcome fuel (subst (λ n. n < fuel) (sym c.give.ensures.left) enough))
