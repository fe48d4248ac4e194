use Rattle.std.proofs.Common.{Bool, subst}
use Rattle.std.proofs.lemmas.Result.{err_from_is_err_and}
use Rattle.lk_tree.specs.Tree.{Level}
use Rattle.lk_tree.specs.LevelTest.{level_le_test}
use Rattle.lk_questions.specs.Steps.{sort_of}
use Rattle.lk_questions.specs.Levels.{tested}
use Rattle.lk_store.specs.Contents.{level_at, tree_at}
use Rattle.lk_declaration.specs.Courses.{Settles}
use Rattle.lk_declaration.proofs.Running.{settles_on, halts_first}
use Rattle.lk_block.proofs.fields.fits.Goals as goal

pub returns-clause-outcome : goal.returns-clause-outcome
returns-clause-outcome g c =
    let before = g.A.Terms.contents c.args.asks.now in
    let after = g.A.Terms.contents c.sort_of.new.asks in
    let own = level_at after c.in_ok-own.own in
    settles_on (g.A.Asks.standing c.args.asks.now) (sort_of (tree_at before c.args.domain)) (λ (s : Level). tested (level_le_test s (level_at before c.args.level))) (g.A.Asks.left c.args.asks.now) (g.A.Asks.left c.sort_of.new.asks)
    own (λ (r : Bool). r) c.is_at_most.result c.in_ok-own.ensures.outcome
    (subst (λ l. Settles (tested (level_le_test own l)) (λ (r : Bool). r) c.is_at_most.result) (c.in_ok-own.ensures.keeps.levels.same c.args.level c.requires.level_in) c.is_at_most.ensures)

pub returns-in_err-own-clause-outcome : goal.returns-in_err-own-clause-outcome
returns-in_err-own-clause-outcome g c =
    let before = g.A.Terms.contents c.args.asks.now in
    let p = err_from_is_err_and c.from_residual.result c.from_residual.ensures.1 in
    rw (p.1, p.2) (halts_first (g.A.Asks.standing c.args.asks.now) (sort_of (tree_at before c.args.domain)) (λ (s : Level). tested (level_le_test s (level_at before c.args.level))) (g.A.Asks.left c.args.asks.now) c.in_err-own.field-0.0 c.in_err-own.ensures.outcome)
