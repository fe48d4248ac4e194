use Rattle.std.proofs.Common.{map, sym, subst}
use Rattle.std.proofs.lemmas.Result.{err_from_is_err_and}
use Rattle.std.proofs.lemmas.List.{length-map}
use Rattle.lk_tree.specs.Tree.{Level}
use Rattle.lk_questions.specs.Steps.{sort_of}
use Rattle.lk_questions.specs.Declarations.{checked}
use Rattle.lk_questions.specs.NumberLaws.{lawful_op}
use Rattle.lk_store.specs.Contents.{name_at, level_at, tree_at}
use Rattle.lk_declaration.specs.Courses.{ComesTo, Halts}
use Rattle.lk_declaration.proofs.Running.{gives_on, halts_first}
use Rattle.lk_laws.specs.Steps.{valued_steps}
use Rattle.lk_laws.proofs.Definitions.{definition_is}
use Rattle.lk_laws.proofs.definition.check_definition.Goals as goal

pub returns-in_err-sort_of-clause-outcome : goal.returns-in_err-sort_of-clause-outcome
returns-in_err-sort_of-clause-outcome g c d h name levels type body =
    let k = g.A.Terms.contents c.args.asks.now in
    let s = g.A.Asks.standing c.args.asks.now in
    let left = g.A.Asks.left c.args.asks.now in
    let stop = c.in_err-sort_of.field-0.0 in
    let x = name_at k c.args.name in
    let ps = map (name_at k) c.args.levels.now in
    let T = tree_at k c.args.ty in
    let V = tree_at k c.args.value in
    let p = err_from_is_err_and c.from_residual.result c.from_residual.ensures.1 in
    rw (p.1, p.2) (subst (λ q. Halts s q left stop)
    (sym (definition_is d h x ps T V name levels type body))
    (halts_first s (sort_of T) (λ (l : Level). valued_steps (lawful_op x) ps T V) left stop
    c.in_err-sort_of.ensures.outcome))

pub returns-clause-outcome : goal.returns-clause-outcome
returns-clause-outcome g c d h name levels type body =
    let k = g.A.Terms.contents c.args.asks.now in
    let s = g.A.Asks.standing c.args.asks.now in
    let after = g.A.Asks.standing c.sort_of.new.asks in
    let left = g.A.Asks.left c.args.asks.now in
    let between = g.A.Asks.left c.sort_of.new.asks in
    let end = g.A.Asks.left c.check_valued.new.asks in
    let r = c.check_valued.result in
    let x = name_at k c.args.name in
    let ps = map (name_at k) c.args.levels.now in
    let T = tree_at k c.args.ty in
    let V = tree_at k c.args.value in
    let first = c.in_ok-sort_of.ensures in
    subst (λ q. ComesTo s q left (λ (u : Unit {0}). checked) end r)
    (sym (definition_is d h x ps T V name levels type body))
    (gives_on s after first.stays (sort_of T) (λ (l : Level). valued_steps (lawful_op x) ps T V)
    left between end (level_at (g.A.Terms.contents c.sort_of.new.asks) c.in_ok-sort_of.field-0)
    (λ (u : Unit {0}). checked) r first.outcome
    (subst (λ o. ComesTo after (valued_steps o ps T V) between (λ (u : Unit {0}). checked) end r)
    c.operation_named-op.ensures
    (c.check_valued.ensures.outcome ps T V (length-map c.args.levels.now (name_at k))
    (first.keeps.trees.same c.args.ty c.requires.ty_in)
    (first.keeps.trees.same c.args.value c.requires.value_in))))
