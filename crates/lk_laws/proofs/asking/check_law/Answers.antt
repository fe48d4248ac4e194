use Rattle.std.proofs.Common.{option_map, ◌∙◌}
use Rattle.std.proofs.lemmas.Result.{err_from_is_err_and}
use Rattle.lk_questions.specs.NumberLaws.{held_given}
use Rattle.lk_declaration.proofs.Running.{gives_on, halts_first}
use Rattle.lk_laws.specs.Operations.{constant_name}
use Rattle.lk_laws.specs.Sides.{side_tree}
use Rattle.lk_laws.specs.Steps.{sides_equal}
use Rattle.lk_laws.proofs.asking.check_law.Goals as goal

pub returns-in_err-check_held-clause-outcome : goal.returns-in_err-check_held-clause-outcome
returns-in_err-check_held-clause-outcome g c v is =
    let p = err_from_is_err_and c.from_residual.result c.from_residual.ensures.1 in
    rw (p.1, p.2) (halts_first (g.A.Asks.standing c.args.asks.now)
    (held_given (option_map constant_name c.args.law.holds))
    (λ (u : Unit {0}). sides_equal (side_tree v c.args.law.left) (side_tree v c.args.law.right))
    (g.A.Asks.left c.args.asks.now) c.in_err-check_held.field-0.0
    c.in_err-check_held.ensures.outcome)

pub returns-clause-outcome : goal.returns-clause-outcome
returns-clause-outcome g c v is =
    let held = c.in_ok-check_held.ensures in
    gives_on (g.A.Asks.standing c.args.asks.now) (g.A.Asks.standing c.check_held.new.asks)
    held.stays (held_given (option_map constant_name c.args.law.holds))
    (λ (u : Unit {0}). sides_equal (side_tree v c.args.law.left) (side_tree v c.args.law.right))
    (g.A.Asks.left c.args.asks.now) (g.A.Asks.left c.check_held.new.asks)
    (g.A.Asks.left c.check_sides.new.asks) c.in_ok-check_held.field-0 (λ (u : Unit {0}). u)
    c.check_sides.result held.outcome
    (c.check_sides.ensures.outcome v (held.keeps.trees.same c.args.value c.requires ∙ is))
