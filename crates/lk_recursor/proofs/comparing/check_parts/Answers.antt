use Rattle.std.proofs.Common.{refl, sym, subst}
use Rattle.std.proofs.lemmas.Result.{err_from_is_err_and}
use Rattle.lk_questions.specs.Declarations.{Yes, checked}
use Rattle.lk_inductive.specs.Compare.{rules_steps}
use Rattle.lk_declaration.specs.Courses.{ComesTo, Halts}
use Rattle.lk_declaration.proofs.Running.{halts_first, gives_on}
use Rattle.lk_recursor.specs.Comparisons.{stated_of, own_of, same_form, renamed_type}
use Rattle.lk_recursor.proofs.Compared.{comparison-known}
use Rattle.lk_recursor.proofs.Checked.{rules-steady}
use Rattle.lk_declaration.proofs.Moves.{gives_moved}
use Rattle.lk_recursor.proofs.Leading.{same_then}
use Rattle.lk_recursor.proofs.comparing.check_parts.Goals as goal

pub check_rules-requires : goal.check_rules-requires
check_rules-requires g c = comparison-known (g.A.Terms.contents c.args.asks.now) (g.A.Terms.contents c.check_type.new.asks) c.in_ok-check_type.ensures.keeps c.args.pair.now c.requires

pub returns-clause-outcome : goal.returns-clause-outcome
returns-clause-outcome g c =
    let before = g.A.Terms.contents c.args.asks.now in
    let between = g.A.Terms.contents c.check_type.new.asks in
    let t = g.A.Asks.standing c.check_type.new.asks in
    let pair = c.args.pair.now in
    let stated = stated_of before pair in
    let own = own_of before pair in
    let grown_stated = stated_of between pair in
    let grown_own = own_of between pair in
    let rules = rules_steps stated own stated.recursor.rules own.recursor.rules in
    let first = c.in_ok-check_type.ensures in
    subst (λ p. ComesTo (g.A.Asks.standing c.args.asks.now) p (g.A.Asks.left c.args.asks.now) (λ u. checked) (g.A.Asks.left c.check_rules.new.asks) c.check_rules.result)
    (sym (same_then stated.type (renamed_type before pair) rules))
    (gives_on (g.A.Asks.standing c.args.asks.now) t first.stays (same_form stated.type (renamed_type before pair)) (λ (u : Yes). rules)
    (g.A.Asks.left c.args.asks.now) (g.A.Asks.left c.check_type.new.asks) (g.A.Asks.left c.check_rules.new.asks) checked (λ u. checked) c.check_rules.result first.outcome
    (gives_moved t t refl rules (rules_steps grown_stated grown_own grown_stated.recursor.rules grown_own.recursor.rules) (rules-steady before between first.keeps pair c.requires)
    (g.A.Asks.left c.check_type.new.asks) (g.A.Asks.left c.check_type.new.asks) refl (λ u. checked) (g.A.Asks.left c.check_rules.new.asks) c.check_rules.result c.check_rules.ensures.outcome))

pub returns-in_err-check_type-clause-outcome : goal.returns-in_err-check_type-clause-outcome
returns-in_err-check_type-clause-outcome g c =
    let before = g.A.Terms.contents c.args.asks.now in
    let pair = c.args.pair.now in
    let stated = stated_of before pair in
    let own = own_of before pair in
    let rules = rules_steps stated own stated.recursor.rules own.recursor.rules in
    let p = err_from_is_err_and c.from_residual.result c.from_residual.ensures.1 in
    rw (p.1, p.2) (subst (λ p. Halts (g.A.Asks.standing c.args.asks.now) p (g.A.Asks.left c.args.asks.now) c.in_err-check_type.field-0.0)
    (sym (same_then stated.type (renamed_type before pair) rules))
    (halts_first (g.A.Asks.standing c.args.asks.now) (same_form stated.type (renamed_type before pair)) (λ (u : Yes). rules) (g.A.Asks.left c.args.asks.now) c.in_err-check_type.field-0.0 c.in_err-check_type.ensures.outcome))
