use Rattle.std.proofs.Common.{sym, subst, ◌∙◌}
use Rattle.lk_tree.specs.declared.rule.Rule.TheVariants.{RecursorDiffers}
use Rattle.lk_questions.specs.Declarations.{checked}
use Rattle.lk_questions.specs.Steps.{given}
use Rattle.lk_declaration.specs.Courses.{ComesTo}
use Rattle.lk_recursor.specs.Comparisons.{stated_of, own_of, trees_form}
use Rattle.lk_recursor.proofs.comparing.check_pair.Goals as goal

pub returns-clause-outcome : goal.returns-clause-outcome
returns-clause-outcome g c =
    let before = g.A.Terms.contents c.args.asks.now in
    let pair = c.args.pair.now in
    subst (λ b. ComesTo (g.A.Asks.standing c.args.asks.now) (given b RecursorDiffers (trees_form (stated_of before pair) (own_of before pair))) (g.A.Asks.left c.args.asks.now) (λ u. checked) (g.A.Asks.left c.check_trees.new.asks) c.check_trees.result)
    (sym (sym c.counts_agree.ensures ∙ c.if-not-counts_agree.false)) c.check_trees.ensures.outcome
