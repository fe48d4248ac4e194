use Rattle.std.proofs.Common.{length, ◌∙◌}
use Rattle.std.proofs.lemmas.Result.{err_from_is_err_and}
use Rattle.lk_questions.specs.Shapes.{nat_shape}
use Rattle.lk_declaration.proofs.Running.{gives_on, halts_first}
use Rattle.lk_laws.specs.Operations.{op_at}
use Rattle.lk_laws.specs.Steps.{counted_laws}
use Rattle.lk_laws.proofs.asking.check_operation.Goals as goal

pub returns-in_err-need-clause-outcome : goal.returns-in_err-need-clause-outcome
returns-in_err-need-clause-outcome g c v is =
    let p = err_from_is_err_and c.from_residual.result c.from_residual.ensures.1 in
    rw (p.1, p.2) (halts_first (g.A.Asks.standing c.args.asks.now) nat_shape
    (λ (u : Unit {0}). counted_laws (op_at c.args.op) (length c.args.levels.now) v)
    (g.A.Asks.left c.args.asks.now) c.in_err-need.field-0.0 c.in_err-need.ensures.outcome)

pub returns-clause-outcome : goal.returns-clause-outcome
returns-clause-outcome g c v is =
    let first = c.in_ok-need.ensures in
    gives_on (g.A.Asks.standing c.args.asks.now) (g.A.Asks.standing c.need.new.asks) first.stays
    nat_shape (λ (u : Unit {0}). counted_laws (op_at c.args.op) (length c.args.levels.now) v)
    (g.A.Asks.left c.args.asks.now) (g.A.Asks.left c.need.new.asks)
    (g.A.Asks.left c.check_without_levels.new.asks) c.in_ok-need.field-0 (λ (u : Unit {0}). u)
    c.check_without_levels.result first.outcome
    (c.check_without_levels.ensures.outcome v
    (first.keeps.trees.same c.args.value c.requires ∙ is))
