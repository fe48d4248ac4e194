use Rattle.std.proofs.Common.{sym, subst}
use Rattle.lk_questions.specs.Declarations.{checked}
use Rattle.lk_store.specs.Contents.{tree_at}
use Rattle.lk_declaration.specs.Courses.{ComesTo}
use Rattle.lk_declaration.proofs.Units.{opaque_is}
use Rattle.lk_declaration.proofs.declaration.check_opaque.Goals as goal

pub returns-clause-outcome : goal.returns-clause-outcome
returns-clause-outcome g c d type body =
    let before = g.A.Terms.contents c.args.asks.now in
    subst (λ p. ComesTo (g.A.Asks.standing c.args.asks.now) p (g.A.Asks.left c.args.asks.now) (λ (u : Unit {0}). checked) (g.A.Asks.left c.check_typed.new.asks) c.check_typed.result)
    (sym (opaque_is d (tree_at before c.args.ty) (tree_at before c.args.value) type body)) c.check_typed.ensures.outcome
