use Rattle.std.proofs.Common.{length, option_map, sym, subst}
use Rattle.lk_questions.specs.Program.{done, ◌>>=◌}
use Rattle.lk_questions.specs.Declarations.{checked}
use Rattle.lk_declaration.specs.Courses.{ComesTo}
use Rattle.lk_laws.specs.Operations.{op_at}
use Rattle.lk_laws.specs.Steps.{op_laws, lawful_steps}
use Rattle.lk_laws.proofs.Definitions.{laws_checked}
use Rattle.lk_laws.proofs.definition.check_lawful.Goals as goal

pub returns-in-Some-clause-outcome : goal.returns-in-Some-clause-outcome
returns-in-Some-clause-outcome g c ps v count is =
    let s = g.A.Asks.standing c.args.asks.now in
    let left = g.A.Asks.left c.args.asks.now in
    let end = g.A.Asks.left c.check_operation.new.asks in
    let r = c.check_operation.result in
    let op = op_at c.in-Some.op in
    subst (λ o. ComesTo s (lawful_steps (option_map op_at o) ps v) left (λ (u : Unit {0}). checked)
    end r) (sym c.in-Some.is)
    (subst (λ n. ComesTo s (op_laws op n v >>= λ u. done checked) left
    (λ (u : Unit {0}). checked) end r) (sym count)
    (laws_checked s (op_laws op (length c.args.levels.now) v) left end r
    (c.check_operation.ensures.outcome v is)))
