use Rattle.std.proofs.Common.{map}
use Rattle.lk_tree.specs.LevelTest.{level_test}
use Rattle.lk_tree.specs.declared.rule.Rule.TheVariants.{BlockShape}
use Rattle.lk_tree.specs.Tree.{Level, Tree}
use Rattle.lk_questions.specs.Program.{done, ◌>>=◌}
use Rattle.lk_questions.specs.Steps.{given}
use Rattle.lk_questions.specs.Levels.{tested}
use Rattle.lk_inductive.specs.BlockSteps.{type_end}
use Rattle.std.specs.Prelude.{List}
use Rattle.std.proofs.lemmas.Result.{err_from_is_err_and}
use Rattle.lk_store.specs.Contents.{level_at, tree_at}
use Rattle.lk_block.proofs.Ends.{at_level_goes, at_level_differs, at_level_stops}
use Rattle.lk_declaration.proofs.Running.{halts_first}
use Rattle.lk_block.proofs.types.end_at_level.Goals as goal

pub returns-in_err-end-clause-outcome : goal.returns-in_err-end-clause-outcome
returns-in_err-end-clause-outcome g c =
    let before = g.A.Terms.contents c.args.asks.now in
    let p = err_from_is_err_and c.from_residual.result c.from_residual.ensures.1 in
    rw (p.1, p.2) (halts_first (g.A.Asks.standing c.args.asks.now) (type_end c.args.first c.args.count (tree_at before c.args.e))
    (λ (e : List Tree × Level). tested (level_test e.1 (level_at before c.args.level)) >>= λ equal. given equal BlockShape (done e.0)) (g.A.Asks.left c.args.asks.now) c.in_err-end.field-0.0 c.in_err-end.ensures.outcome)

pub returns-then-branch-clause-outcome : goal.returns-then-branch-clause-outcome
returns-then-branch-clause-outcome g c =
    let before = g.A.Terms.contents c.args.asks.now in
    let between = g.A.Terms.contents c.type_end.new.asks in
    at_level_goes (g.A.Asks.standing c.args.asks.now) c.args.first c.args.count (tree_at before c.args.e) (g.A.Asks.left c.args.asks.now) (level_at before c.args.level) (level_at between c.args.level) (level_at between c.in_ok-end.end.1) (map (tree_at between) c.in_ok-end.end.0.items) (g.A.Asks.left c.type_end.new.asks)
    (c.in_ok-end.ensures.keeps.levels.same c.args.level c.requires.level_in)
    c.in_ok-levels_equal.field-0 c.in_ok-end.ensures.outcome c.in_ok-levels_equal.ensures c.if-branch.true

pub returns-else-branch-clause-outcome : goal.returns-else-branch-clause-outcome
returns-else-branch-clause-outcome g c =
    let before = g.A.Terms.contents c.args.asks.now in
    let between = g.A.Terms.contents c.type_end.new.asks in
    at_level_differs (g.A.Asks.standing c.args.asks.now) c.args.first c.args.count (tree_at before c.args.e) (g.A.Asks.left c.args.asks.now) (level_at before c.args.level) (level_at between c.args.level) (level_at between c.in_ok-end.end.1) (map (tree_at between) c.in_ok-end.end.0.items) (g.A.Asks.left c.type_end.new.asks)
    (c.in_ok-end.ensures.keeps.levels.same c.args.level c.requires.level_in)
    c.in_ok-levels_equal.field-0 c.in_ok-end.ensures.outcome c.in_ok-levels_equal.ensures c.if-branch.false

pub returns-in_err-levels_equal-clause-outcome : goal.returns-in_err-levels_equal-clause-outcome
returns-in_err-levels_equal-clause-outcome g c =
    let before = g.A.Terms.contents c.args.asks.now in
    let between = g.A.Terms.contents c.type_end.new.asks in
    let p = err_from_is_err_and c.from_residual-in_err-levels_equal.result c.from_residual-in_err-levels_equal.ensures.1 in
    rw (p.1, p.2) (at_level_stops (g.A.Asks.standing c.args.asks.now) c.args.first c.args.count (tree_at before c.args.e) (g.A.Asks.left c.args.asks.now) (level_at before c.args.level) (level_at between c.args.level) (level_at between c.in_ok-end.end.1) (map (tree_at between) c.in_ok-end.end.0.items) (g.A.Asks.left c.type_end.new.asks)
    (c.in_ok-end.ensures.keeps.levels.same c.args.level c.requires.level_in)
    c.in_err-levels_equal.field-0.0 c.in_ok-end.ensures.outcome c.in_err-levels_equal.ensures)
