use Rattle.std.proofs.Common.{refl, sym, subst, ◌∙◌, if◌then◌else◌}
use Rattle.std.proofs.lemmas.Result.{err_from_is_err_and}
use Rattle.lk_tree.specs.Tree.{Level}
use Rattle.lk_tree.specs.Level.{is_zero_level}
use Rattle.lk_tree.specs.declared.rule.Rule.TheVariants.{TheoremNotProp}
use Rattle.lk_questions.specs.Program.{refuse}
use Rattle.lk_questions.specs.Steps.{sort_of}
use Rattle.lk_questions.specs.Declarations.{checked, value_steps}
use Rattle.lk_store.specs.Contents.{level_at, tree_at}
use Rattle.lk_ask.specs.declared.stop.Stop.TheVariants.{No}
use Rattle.lk_declaration.specs.Courses.{ComesTo, Halts}
use Rattle.lk_declaration.proofs.Running.{gives_on, halts_first, halts_later}
use Rattle.lk_declaration.proofs.Units.{theorem_is}
use Rattle.lk_declaration.proofs.Valued.{value_moved}
use Rattle.lk_declaration.proofs.declaration.check_theorem.Goals as goal

pub returns-in_err-level-clause-outcome : goal.returns-in_err-level-clause-outcome
returns-in_err-level-clause-outcome g c d type body =
    let before = g.A.Terms.contents c.args.asks.now in
    let s = g.A.Asks.standing c.args.asks.now in
    let T = tree_at before c.args.ty in
    let V = tree_at before c.args.proof in
    let start = g.A.Asks.left c.args.asks.now in
    let stop = c.in_err-level.field-0.0 in
    let p = err_from_is_err_and c.from_residual.result c.from_residual.ensures.1 in
    rw (p.1, p.2) (subst (λ q. Halts s q start stop) (sym (theorem_is d T V type body))
    (halts_first s (sort_of T) (λ (l : Level). if is_zero_level l then value_steps T V else refuse TheoremNotProp) start stop c.in_err-level.ensures.outcome))

pub returns-then-level_is_zero-clause-outcome : goal.returns-then-level_is_zero-clause-outcome
returns-then-level_is_zero-clause-outcome g c d type body =
    let before = g.A.Terms.contents c.args.asks.now in
    let between = g.A.Terms.contents c.sort_of.new.asks in
    let s = g.A.Asks.standing c.args.asks.now in
    let u = g.A.Asks.standing c.sort_of.new.asks in
    let T = tree_at before c.args.ty in
    let V = tree_at before c.args.proof in
    let start = g.A.Asks.left c.args.asks.now in
    let left = g.A.Asks.left c.sort_of.new.asks in
    let end = g.A.Asks.left c.check_value.new.asks in
    let kept = c.in_ok-level.ensures.keeps.trees in
    subst (λ q. ComesTo s q start (λ (u : Unit {0}). checked) end c.check_value.result) (sym (theorem_is d T V type body))
    (gives_on s u c.in_ok-level.ensures.stays (sort_of T) (λ (l : Level). if is_zero_level l then value_steps T V else refuse TheoremNotProp) start left end
    (level_at between c.in_ok-level.level) (λ (u : Unit {0}). checked) c.check_value.result c.in_ok-level.ensures.outcome
    (rw (sym c.level_is_zero.ensures ∙ c.if-level_is_zero.true) (value_moved u T (tree_at between c.args.ty) V (tree_at between c.args.proof) left end c.check_value.result
    (kept.same c.args.ty c.requires.ty_in) (kept.same c.args.proof c.requires.proof_in) c.check_value.ensures.outcome)))

pub returns-else-level_is_zero-clause-outcome : goal.returns-else-level_is_zero-clause-outcome
returns-else-level_is_zero-clause-outcome g c d type body =
    let before = g.A.Terms.contents c.args.asks.now in
    let between = g.A.Terms.contents c.sort_of.new.asks in
    let s = g.A.Asks.standing c.args.asks.now in
    let T = tree_at before c.args.ty in
    let V = tree_at before c.args.proof in
    let start = g.A.Asks.left c.args.asks.now in
    let left = g.A.Asks.left c.sort_of.new.asks in
    subst (λ q. Halts s q start (No TheoremNotProp)) (sym (theorem_is d T V type body))
    (halts_later s s refl (sort_of T) (λ (l : Level). if is_zero_level l then value_steps T V else refuse TheoremNotProp) start left
    (level_at between c.in_ok-level.level) (No TheoremNotProp) c.in_ok-level.ensures.outcome
    (rw (sym c.level_is_zero.ensures ∙ c.if-level_is_zero.false) (record { stops = λ k. refl })))
