use Rattle.std.proofs.Common.{map, ap}
use Rattle.lk_store.specs.Contents.{Contents}
use Rattle.lk_env.specs.Units.{recursor_at}
use Rattle.lk_env.specs.declared.entry.Partial.TheVariants.{Members}
use Rattle.lk_inductive.specs.Compare.{compare_steps}
use Rattle.lk_inductive.specs.Recursors.{recursors_by}
use Rattle.lk_restore.specs.Originals.{restoring_at}
use Rattle.lk_block.specs.Shapes.{shape_at}
use Rattle.leancheck.proofs.Staging.{stage_last, same_table, same_place}
use Rattle.leancheck.proofs.larger.check_recursors.Goals as goal

pub returns-clause-outcome : goal.returns-clause-outcome
returns-clause-outcome g c =
    let s = g.A.Asks.standing c.args.asks.now in
    stage_last s.table (g.A.Asks.standing c.give_beside.new.self) (g.A.Asks.places s.basis) Members _ _ _ _ _ (g.A.Asks.left c.compare.new.asks) c.compare.result
    (same_table c.in_ok-give_beside.ensures.standing) (same_place c.in_ok-give_beside.ensures.standing)
    (ap (λ (d : Contents). compare_steps (recursors_by (restoring_at d c.args.originals.now (shape_at d c.args.shape.now)) (shape_at d c.args.shape.now)) (map (recursor_at d) c.args.stated.now)) c.in_ok-give_beside.ensures.contents) c.in_ok-give_beside.ensures.left c.compare.ensures.outcome
