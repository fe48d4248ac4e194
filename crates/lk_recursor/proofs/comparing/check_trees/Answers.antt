use Rattle.std.proofs.Common.{refl}
use Rattle.std.proofs.lemmas.Result.{err_from_is_err_and}
use Rattle.lk_tree.specs.Tree.{Level}
use Rattle.lk_questions.specs.Declarations.{checked}
use Rattle.lk_questions.specs.Steps.{sort_of}
use Rattle.lk_store.specs.Contents.{level_at}
use Rattle.lk_declaration.proofs.Running.{halts_first, gives_on}
use Rattle.lk_recursor.specs.Comparisons.{stated_of, own_of, parts_form}
use Rattle.lk_recursor.proofs.Compared.{comparison-known}
use Rattle.lk_recursor.proofs.Checked.{parts-steady}
use Rattle.lk_declaration.proofs.Moves.{gives_moved}
use Rattle.lk_recursor.proofs.comparing.check_trees.Goals as goal

pub check_parts-requires : goal.check_parts-requires
check_parts-requires g c = comparison-known (g.A.Terms.contents c.args.asks.now) (g.A.Terms.contents c.sort_of.new.asks) c.in_ok-sort_of.ensures.keeps c.args.pair.now c.requires

pub returns-clause-outcome : goal.returns-clause-outcome
returns-clause-outcome g c =
    let before = g.A.Terms.contents c.args.asks.now in
    let between = g.A.Terms.contents c.sort_of.new.asks in
    let t = g.A.Asks.standing c.sort_of.new.asks in
    let pair = c.args.pair.now in
    let first = c.in_ok-sort_of.ensures in
    gives_on (g.A.Asks.standing c.args.asks.now) t first.stays (sort_of (stated_of before pair).type) (λ (l : Level). parts_form (stated_of before pair) (own_of before pair))
    (g.A.Asks.left c.args.asks.now) (g.A.Asks.left c.sort_of.new.asks) (g.A.Asks.left c.check_parts.new.asks) (level_at between c.in_ok-sort_of.field-0) (λ u. checked) c.check_parts.result first.outcome
    (gives_moved t t refl (parts_form (stated_of before pair) (own_of before pair)) (parts_form (stated_of between pair) (own_of between pair)) (parts-steady before between first.keeps pair c.requires)
    (g.A.Asks.left c.sort_of.new.asks) (g.A.Asks.left c.sort_of.new.asks) refl (λ u. checked) (g.A.Asks.left c.check_parts.new.asks) c.check_parts.result c.check_parts.ensures.outcome)

pub returns-in_err-sort_of-clause-outcome : goal.returns-in_err-sort_of-clause-outcome
returns-in_err-sort_of-clause-outcome g c =
    let before = g.A.Terms.contents c.args.asks.now in
    let p = err_from_is_err_and c.from_residual.result c.from_residual.ensures.1 in
    rw (p.1, p.2) (halts_first (g.A.Asks.standing c.args.asks.now) (sort_of (stated_of before c.args.pair.now).type) (λ (l : Level). parts_form (stated_of before c.args.pair.now) (own_of before c.args.pair.now))
    (g.A.Asks.left c.args.asks.now) c.in_err-sort_of.field-0.0 c.in_err-sort_of.ensures.outcome)
