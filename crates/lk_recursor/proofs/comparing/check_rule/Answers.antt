use Rattle.std.proofs.Common.{refl, ap, ◌∙◌}
use Rattle.std.proofs.lemmas.Result.{err_from_is_err_and}
use Rattle.lk_tree.specs.Tree.{Tree}
use Rattle.lk_questions.specs.Program.{asked}
use Rattle.lk_questions.specs.Query.{infer}
use Rattle.lk_questions.specs.Declarations.{checked}
use Rattle.lk_store.specs.Contents.{tree_at}
use Rattle.lk_declaration.proofs.Running.{halts_first, gives_on}
use Rattle.lk_recursor.specs.Comparisons.{same_form, renamed_value}
use Rattle.lk_recursor.proofs.Compared.{comparison-known}
use Rattle.lk_recursor.proofs.Checked.{renamed_value-steady}
use Rattle.lk_declaration.proofs.Moves.{gives_moved}
use Rattle.lk_recursor.proofs.comparing.check_rule.Goals as goal

pub check_value-requires-clause-pair_is : goal.check_value-requires-clause-pair_is
check_value-requires-clause-pair_is g c = comparison-known (g.A.Terms.contents c.args.asks.now) (g.A.Terms.contents c.type_of.new.asks) c.in_ok-type_of.ensures.keeps c.args.pair.now c.requires.pair_is

pub returns-clause-outcome : goal.returns-clause-outcome
returns-clause-outcome g c =
    let before = g.A.Terms.contents c.args.asks.now in
    let between = g.A.Terms.contents c.type_of.new.asks in
    let t = g.A.Asks.standing c.type_of.new.asks in
    let first = c.in_ok-type_of.ensures in
    let made = renamed_value before c.args.pair.now c.args.minor c.args.constructor.now in
    let grown = renamed_value between c.args.pair.now c.args.minor c.args.constructor.now in
    gives_on (g.A.Asks.standing c.args.asks.now) t first.stays (asked (infer (tree_at before c.args.value))) (λ (V : Tree). same_form (tree_at before c.args.value) made)
    (g.A.Asks.left c.args.asks.now) (g.A.Asks.left c.type_of.new.asks) (g.A.Asks.left c.check_value.new.asks) (tree_at between c.in_ok-type_of.field-0) (λ u. checked) c.check_value.result first.outcome
    (gives_moved t t refl (same_form (tree_at before c.args.value) made) (same_form (tree_at between c.args.value) grown)
    (ap (λ a. same_form a grown) (first.keeps.trees.same c.args.value c.requires.value_in)
    ∙ ap (same_form (tree_at before c.args.value)) (renamed_value-steady before between first.keeps c.args.pair.now c.requires.pair_is c.args.minor c.args.constructor.now c.requires.minor_in c.requires.constructor_in))
    (g.A.Asks.left c.type_of.new.asks) (g.A.Asks.left c.type_of.new.asks) refl (λ u. checked) (g.A.Asks.left c.check_value.new.asks) c.check_value.result c.check_value.ensures.outcome)

pub returns-in_err-type_of-clause-outcome : goal.returns-in_err-type_of-clause-outcome
returns-in_err-type_of-clause-outcome g c =
    let before = g.A.Terms.contents c.args.asks.now in
    let p = err_from_is_err_and c.from_residual.result c.from_residual.ensures.1 in
    rw (p.1, p.2) (halts_first (g.A.Asks.standing c.args.asks.now) (asked (infer (tree_at before c.args.value))) (λ (V : Tree). same_form (tree_at before c.args.value) (renamed_value before c.args.pair.now c.args.minor c.args.constructor.now))
    (g.A.Asks.left c.args.asks.now) c.in_err-type_of.field-0.0 c.in_err-type_of.ensures.outcome)
