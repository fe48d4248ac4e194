use Rattle.std.proofs.lemmas.Result.{err_from_is_err_and}
use Rattle.lk_tree.specs.Tree.{Level}
use Rattle.lk_questions.specs.Steps.{sort_of}
use Rattle.lk_questions.specs.Declarations.{checked, value_steps}
use Rattle.lk_store.specs.Contents.{level_at, tree_at}
use Rattle.lk_declaration.proofs.Running.{gives_on, halts_first}
use Rattle.lk_declaration.proofs.Valued.{value_moved}
use Rattle.lk_declaration.proofs.declaration.check_typed.Goals as goal

pub returns-in_err-sort_of-clause-outcome : goal.returns-in_err-sort_of-clause-outcome
returns-in_err-sort_of-clause-outcome g c =
    let before = g.A.Terms.contents c.args.asks.now in
    let p = err_from_is_err_and c.from_residual.result c.from_residual.ensures.1 in
    rw (p.1, p.2) (halts_first (g.A.Asks.standing c.args.asks.now) (sort_of (tree_at before c.args.ty)) (λ (l : Level). value_steps (tree_at before c.args.ty) (tree_at before c.args.value)) (g.A.Asks.left c.args.asks.now) c.in_err-sort_of.field-0.0 c.in_err-sort_of.ensures.outcome)

pub returns-clause-outcome : goal.returns-clause-outcome
returns-clause-outcome g c =
    let before = g.A.Terms.contents c.args.asks.now in
    let between = g.A.Terms.contents c.sort_of.new.asks in
    let T = tree_at before c.args.ty in
    let V = tree_at before c.args.value in
    let left = g.A.Asks.left c.sort_of.new.asks in
    let end = g.A.Asks.left c.check_value.new.asks in
    gives_on (g.A.Asks.standing c.args.asks.now) (g.A.Asks.standing c.sort_of.new.asks) c.in_ok-sort_of.ensures.stays
    (sort_of T) (λ (l : Level). value_steps T V) (g.A.Asks.left c.args.asks.now) left end (level_at between c.in_ok-sort_of.field-0) (λ (u : Unit {0}). checked) c.check_value.result c.in_ok-sort_of.ensures.outcome
    (value_moved (g.A.Asks.standing c.sort_of.new.asks) T (tree_at between c.args.ty) V (tree_at between c.args.value) left end c.check_value.result
    (c.in_ok-sort_of.ensures.keeps.trees.same c.args.ty c.requires.ty_in) (c.in_ok-sort_of.ensures.keeps.trees.same c.args.value c.requires.value_in) c.check_value.ensures.outcome)
