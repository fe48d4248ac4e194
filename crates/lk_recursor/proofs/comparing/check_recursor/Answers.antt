use Rattle.std.proofs.Common.{Err, sym, refl, subst}
use Rattle.lk_tree.specs.declared.rule.Rule.TheVariants.{RecursorDiffers}
use Rattle.lk_questions.specs.Program.{refuse}
use Rattle.lk_questions.specs.Declarations.{Yes, checked}
use Rattle.lk_ask.specs.declared.stop.Stop.TheVariants.{No}
use Rattle.lk_env.specs.Units.{recursor_at}
use Rattle.lk_inductive.specs.Compare.{compare_found}
use Rattle.lk_declaration.specs.Courses.{ComesTo, Halts}
use Rattle.lk_declaration.proofs.Running.{settled}
use Rattle.lk_recursor.proofs.comparing.check_recursor.Goals as goal

pub returns-in-None-clause-outcome : goal.returns-in-None-clause-outcome
returns-in-None-clause-outcome g c =
    let before = g.A.Terms.contents c.args.asks.now in
    let t = g.A.Asks.standing c.args.asks.now in
    subst (λ o. Halts t (compare_found (recursor_at before c.args.stated.now) o) (g.A.Asks.left c.args.asks.now) (No RecursorDiffers)) (sym c.in-None.ensures.found)
    (settled t (refuse RecursorDiffers) (g.A.Asks.left c.args.asks.now) (λ (y : Yes). y) (Err (No RecursorDiffers)) refl)

pub returns-in-Some-clause-outcome : goal.returns-in-Some-clause-outcome
returns-in-Some-clause-outcome g c =
    let before = g.A.Terms.contents c.args.asks.now in
    let t = g.A.Asks.standing c.args.asks.now in
    subst (λ o. ComesTo t (compare_found (recursor_at before c.args.stated.now) o) (g.A.Asks.left c.args.asks.now) (λ u. checked) (g.A.Asks.left c.check_found.new.asks) c.check_found.result) (sym c.in-Some.ensures.found) c.check_found.ensures.outcome
