use Rattle.std.proofs.Common.{◌<◌, map, All, ap, sym, subst, ◌∙◌}
use Rattle.lk_store.specs.Contents.{Contents}
use Rattle.lk_env.specs.Scopes.{alone_members}
use Rattle.lk_env.specs.Units.{type_at, recursor_at, IsTypeIn, IsRecursorIn}
use Rattle.lk_env.specs.declared.entry.Partial.TheVariants.{Types}
use Rattle.lk_block.specs.Parts.{ArePartsIn}
use Rattle.lk_block.specs.Stages.{shape_stage}
use Rattle.lk_declaration.specs.Checked.{IsCheckOutcome}
use Rattle.leancheck.specs.Larger.{AreReadAt, IsEnlargedTo}
use Rattle.leancheck.proofs.Staging.{moved_four, same_table, same_place, same_basis}
use Rattle.leancheck.proofs.larger.check_beside.Goals as goal

pub check_from_shape-requires-clause-types_in : goal.check_from_shape-requires-clause-types_in
check_from_shape-requires-clause-types_in g c = subst (λ (d : Contents). All (IsTypeIn d) c.args.types.now) (sym c.in_ok-give_beside.ensures.contents) c.requires.types_in

pub check_from_shape-requires-clause-parts_in : goal.check_from_shape-requires-clause-parts_in
check_from_shape-requires-clause-parts_in g c = subst (λ (d : Contents). ArePartsIn d c.args.parts) (sym c.in_ok-give_beside.ensures.contents) c.requires.parts_in

pub check_from_shape-requires-clause-aux_in : goal.check_from_shape-requires-clause-aux_in
check_from_shape-requires-clause-aux_in g c = subst (λ (d : Contents). All (IsTypeIn d) c.args.aux.now) (sym c.in_ok-give_beside.ensures.contents) c.requires.aux_in

pub check_from_shape-requires-clause-originals_are : goal.check_from_shape-requires-clause-originals_are
check_from_shape-requires-clause-originals_are g c = subst (λ (d : Contents). AreReadAt d c.args.types.now c.args.parts.parameters.items c.args.originals.now) (sym c.in_ok-give_beside.ensures.contents) c.requires.originals_are

pub check_from_shape-requires-clause-stated_in : goal.check_from_shape-requires-clause-stated_in
check_from_shape-requires-clause-stated_in g c = subst (λ (d : Contents). All (IsRecursorIn d) c.args.stated.now) (sym c.in_ok-give_beside.ensures.contents) c.requires.stated_in

pub check_from_shape-requires-clause-place : goal.check_from_shape-requires-clause-place
check_from_shape-requires-clause-place g c =
    same_place c.in_ok-give_beside.ensures.standing ∙ ap (λ b. g.A.Asks.places b Types (alone_members (map (type_at (g.A.Terms.contents c.args.asks.now)) c.args.aux.now))) (sym (same_basis c.in_ok-give_beside.ensures.standing))
    ∙ ap (λ (d : Contents). g.A.Asks.places (g.A.Asks.standing c.give_beside.new.self).basis Types (alone_members (map (type_at d) c.args.aux.now))) (sym c.in_ok-give_beside.ensures.contents)

pub returns-clause-outcome : goal.returns-clause-outcome
returns-clause-outcome g c fuel b ts lg enough e =
    moved_four (λ u ps (d : Contents) n. IsCheckOutcome (shape_stage u ps fuel b (map (recursor_at d) c.args.stated.now) ts lg n) c.check_from_shape.result)
    (same_table c.in_ok-give_beside.ensures.standing) (ap (g.A.Asks.places) (same_basis c.in_ok-give_beside.ensures.standing)) c.in_ok-give_beside.ensures.contents c.in_ok-give_beside.ensures.left
    (c.check_from_shape.ensures.outcome fuel b ts lg (subst (λ n. n < fuel) (sym c.in_ok-give_beside.ensures.left) enough)
    (subst (λ (d : Contents). IsEnlargedTo d b ts lg c.args.types.now c.args.parts c.args.aux.now c.args.originals.now) (sym c.in_ok-give_beside.ensures.contents) e))
