use Rattle.std.proofs.Common.{suc, [], map, sym, ◌∙◌, arith}
use Rattle.lk_tree.specs.declared.rule.Rule.TheVariants.{BlockShape}
use Rattle.lk_env.specs.Units.{block_at, recursor_at}
use Rattle.lk_env.specs.declared.entry.Partial.TheVariants.{Nothing}
use Rattle.lk_block.specs.Stages.{types_stage}
use Rattle.leancheck.proofs.Staging.{test_passes, test_fails}
use Rattle.leancheck.proofs.blocks.check_block.Goals as goal

pub returns-then-counts_agree-clause-outcome : goal.returns-then-counts_agree-clause-outcome
returns-then-counts_agree-clause-outcome g c =
    let at = g.A.Terms.contents c.args.asks.now in
    let s = g.A.Asks.standing c.args.asks.now in
    let t = s.table in
    let left = g.A.Asks.left c.args.asks.now in
    let places = g.A.Asks.places s.basis in
    test_passes t places Nothing [] BlockShape _ left (λ y rest. types_stage t places (suc left) (block_at at c.args.block.now) (map (recursor_at at) c.args.block.now.recursors.value.items) rest) c.check_from_types.result
    (sym c.counts_agree.ensures ∙ c.if-counts_agree.true) (c.check_from_types.ensures.outcome (suc left) (omega arith))

pub returns-else-counts_agree-clause-outcome : goal.returns-else-counts_agree-clause-outcome
returns-else-counts_agree-clause-outcome g c =
    let at = g.A.Terms.contents c.args.asks.now in
    let s = g.A.Asks.standing c.args.asks.now in
    let t = s.table in
    let left = g.A.Asks.left c.args.asks.now in
    let places = g.A.Asks.places s.basis in
    test_fails t places Nothing [] BlockShape _ left (λ y rest. types_stage t places (suc left) (block_at at c.args.block.now) (map (recursor_at at) c.args.block.now.recursors.value.items) rest)
    (sym c.counts_agree.ensures ∙ c.if-counts_agree.false)
