use Rattle.std.proofs.Common.{option_map, sym}
use Rattle.std.proofs.lemmas.Result.{err_from_is_err_and}
use Rattle.lk_questions.specs.Declarations.{Yes, checked, value_steps}
use Rattle.lk_store.specs.Contents.{tree_at}
use Rattle.lk_declaration.proofs.Running.{gives_on, halts_first}
use Rattle.lk_laws.specs.Operations.{op_at}
use Rattle.lk_laws.specs.Steps.{lawful_steps}
use Rattle.lk_laws.proofs.definition.check_valued.Goals as goal

pub returns-in_err-check_value-clause-outcome : goal.returns-in_err-check_value-clause-outcome
returns-in_err-check_value-clause-outcome g c ps type v count type_is value_is =
    let k = g.A.Terms.contents c.args.asks.now in
    let T = tree_at k c.args.ty in
    let V = tree_at k c.args.value in
    let p = err_from_is_err_and c.from_residual.result c.from_residual.ensures.1 in
    rw (p.1, p.2) (rw (sym type_is) (rw (sym value_is)
    (halts_first (g.A.Asks.standing c.args.asks.now) (value_steps T V)
    (λ (y : Yes). lawful_steps (option_map op_at c.args.op) ps V) (g.A.Asks.left c.args.asks.now)
    c.in_err-check_value.field-0.0 c.in_err-check_value.ensures.outcome)))

pub returns-clause-outcome : goal.returns-clause-outcome
returns-clause-outcome g c ps type v count type_is value_is =
    let k = g.A.Terms.contents c.args.asks.now in
    let T = tree_at k c.args.ty in
    let V = tree_at k c.args.value in
    let first = c.in_ok-check_value.ensures in
    rw (sym type_is) (rw (sym value_is)
    (gives_on (g.A.Asks.standing c.args.asks.now) (g.A.Asks.standing c.check_value.new.asks)
    first.stays (value_steps T V)
    (λ (y : Yes). lawful_steps (option_map op_at c.args.op) ps V) (g.A.Asks.left c.args.asks.now)
    (g.A.Asks.left c.check_value.new.asks) (g.A.Asks.left c.check_lawful.new.asks) checked
    (λ (u : Unit {0}). checked) c.check_lawful.result first.outcome
    (c.check_lawful.ensures.outcome ps V count
    (first.keeps.trees.same c.args.value c.requires.value_in))))
