use Rattle.std.proofs.Common.{map, subst, refl}
use Rattle.lk_engine.specs.Lookouts.{standing_of, places_at}
use Rattle.lk_env.specs.Units.{declaration_at, block_at, recursor_at}
use Rattle.leancheck.specs.Rows.{questions_of}
use Rattle.leancheck.specs.Held.{IsPlain}
use Rattle.leancheck.proofs.Verdicts.{stages_answered}
use Rattle.lk_store.specs.Layers.{layers_contents}
use Rattle.leancheck.proofs.checking.judge_scanned.Goals as goal

pub returns-in-Declaration-clause-verdict : goal.returns-in-Declaration-clause-verdict
returns-in-Declaration-clause-verdict g c =
    let at = layers_contents c.args.asks.now.terms in
    rw c.in-Declaration.is
    (subst (λ w. IsPlain (questions_of w (c.args.asks.now.meter.left) (declaration_at at c.in-Declaration.declaration)) c.judge_declaration.result) c.requires.place
    c.judge_declaration.ensures.verdict)

pub returns-in-Block-clause-verdict : goal.returns-in-Block-clause-verdict
returns-in-Block-clause-verdict g c =
    let at = layers_contents c.args.asks.now.terms in
    rw (c.in-Block.is, c.verdict_of.ensures)
    (stages_answered (standing_of c.args.asks.now).table (places_at (standing_of c.args.asks.now).basis) (block_at at c.in-Block.block) (map (recursor_at at) c.in-Block.block.recursors.value.items) (c.args.asks.now.meter.left) c.check_block.result refl c.check_block.ensures.outcome)
