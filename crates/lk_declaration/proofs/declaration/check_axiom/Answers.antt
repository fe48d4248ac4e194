use Rattle.std.proofs.Common.{refl, sym, subst}
use Rattle.std.proofs.lemmas.Result.{err_from_is_err_and}
use Rattle.lk_tree.specs.Tree.{Level}
use Rattle.lk_questions.specs.Program.{done}
use Rattle.lk_questions.specs.Steps.{sort_of}
use Rattle.lk_questions.specs.Declarations.{checked}
use Rattle.lk_store.specs.Contents.{level_at, tree_at}
use Rattle.lk_declaration.specs.Courses.{Goes, Halts}
use Rattle.lk_declaration.proofs.Running.{ends_at, halts_first}
use Rattle.lk_declaration.proofs.Units.{axiom_is}
use Rattle.lk_declaration.proofs.declaration.check_axiom.Goals as goal

pub returns-in_err-sort_of-clause-outcome : goal.returns-in_err-sort_of-clause-outcome
returns-in_err-sort_of-clause-outcome g c d type body =
    let T = tree_at (g.A.Terms.contents c.args.asks.now) c.args.ty in
    let s = g.A.Asks.standing c.args.asks.now in
    let stop = c.in_err-sort_of.field-0.0 in
    let p = err_from_is_err_and c.from_residual.result c.from_residual.ensures.1 in
    rw (p.1, p.2) (subst (λ q. Halts s q (g.A.Asks.left c.args.asks.now) stop) (sym (axiom_is d T type body))
    (halts_first s (sort_of T) (λ (l : Level). done checked) (g.A.Asks.left c.args.asks.now) stop c.in_err-sort_of.ensures.outcome))

pub returns-clause-outcome : goal.returns-clause-outcome
returns-clause-outcome g c d type body =
    let T = tree_at (g.A.Terms.contents c.args.asks.now) c.args.ty in
    let s = g.A.Asks.standing c.args.asks.now in
    let left = g.A.Asks.left c.sort_of.new.asks in
    subst (λ q. Goes s q (g.A.Asks.left c.args.asks.now) checked left) (sym (axiom_is d T type body))
    (ends_at s (sort_of T) (λ (l : Level). done checked) (g.A.Asks.left c.args.asks.now) left left (level_at (g.A.Terms.contents c.sort_of.new.asks) c.in_ok-sort_of.field-0) checked checked c.in_ok-sort_of.ensures.outcome refl refl refl)
