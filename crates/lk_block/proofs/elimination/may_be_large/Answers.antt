use Rattle.std.proofs.Common.{Bool, true, map, ap, sym, ◌∙◌}
use Rattle.std.specs.Prelude.{if◌then◌else◌}
use Rattle.lk_questions.specs.Program.{done, ◌>>=◌}
use Rattle.lk_inductive.specs.BlockSteps.{one_type_steps, large_steps}
use Rattle.lk_store.specs.Contents.{level_at}
use Rattle.lk_block.specs.Shapes.{type_shape_at}
use Rattle.lk_declaration.proofs.Moves.{gives_moved}
use Rattle.lk_block.proofs.Shaping.{types-known}
use Rattle.lk_block.proofs.Smallness.{shapes_kept}
use Rattle.lk_block.proofs.elimination.may_be_large.Goals as goal

pub has_small_type-requires : goal.has_small_type-requires
has_small_type-requires g c = types-known (g.A.Terms.contents c.args.asks.now) (g.A.Terms.contents c.is_above_zero.new.asks) c.in_ok-is_above_zero.ensures.keeps c.args.types.now c.requires.types_in

pub returns-else-branch-clause-outcome : goal.returns-else-branch-clause-outcome
returns-else-branch-clause-outcome g c =
    let before = g.A.Terms.contents c.args.asks.now in
    let between = g.A.Terms.contents c.is_above_zero.new.asks in
    let rest = one_type_steps (map (type_shape_at before) c.args.types.now) in
    let made = c.in_ok-is_above_zero.ensures in
    gives_moved (g.A.Asks.standing c.args.asks.now) (g.A.Asks.standing c.is_above_zero.new.asks) made.stays
    (large_steps (level_at before c.args.sort) (map (type_shape_at before) c.args.types.now)) (one_type_steps (map (type_shape_at between) c.args.types.now))
    (shapes_kept before between made.keeps c.args.types.now c.requires.types_in ∙ sym (ap (λ p. p >>= λ above. if above then done true else rest) made.outcome ∙ ap (λ (above : Bool). if above then done true else rest) c.if-branch.false))
    (g.A.Asks.left c.args.asks.now) (g.A.Asks.left c.is_above_zero.new.asks) made.left
    (λ (r : Bool). r) (g.A.Asks.left c.has_small_type.new.asks) c.has_small_type.result c.has_small_type.ensures.outcome
