use Rattle.std.proofs.Common.{subst}
use Rattle.std.proofs.lemmas.Result.{err_from_is_err_and}
use Rattle.lk_tree.specs.Tree.{Level}
use Rattle.lk_questions.specs.Steps.{sort_of}
use Rattle.lk_store.specs.Contents.{level_at, tree_at}
use Rattle.lk_declaration.specs.Courses.{ComesTo}
use Rattle.lk_block.specs.Parts.{parts_at, open_form}
use Rattle.lk_declaration.proofs.Running.{halts_first, gives_on}
use Rattle.lk_block.proofs.types.first_type.Goals as goal

pub returns-in_err-sort_of-clause-outcome : goal.returns-in_err-sort_of-clause-outcome
returns-in_err-sort_of-clause-outcome g c =
    let before = g.A.Terms.contents c.args.asks.now in
    let p = err_from_is_err_and c.from_residual.result c.from_residual.ensures.1 in
    rw (p.1, p.2) (halts_first (g.A.Asks.standing c.args.asks.now) (sort_of (tree_at before c.args.ty)) (λ (s : Level). open_form c.args.parameters c.args.indices (tree_at before c.args.ty)) (g.A.Asks.left c.args.asks.now) c.in_err-sort_of.field-0.0 c.in_err-sort_of.ensures.outcome)

pub returns-clause-outcome : goal.returns-clause-outcome
returns-clause-outcome g c =
    let before = g.A.Terms.contents c.args.asks.now in
    let between = g.A.Terms.contents c.sort_of.new.asks in
    let after = g.A.Terms.contents c.open_parameters.new.asks in
    let t = g.A.Asks.standing c.sort_of.new.asks in
    gives_on (g.A.Asks.standing c.args.asks.now) t c.in_ok-sort_of.ensures.stays
    (sort_of (tree_at before c.args.ty)) (λ (s : Level). open_form c.args.parameters c.args.indices (tree_at before c.args.ty)) (g.A.Asks.left c.args.asks.now) (g.A.Asks.left c.sort_of.new.asks) (g.A.Asks.left c.open_parameters.new.asks)
    (level_at between c.in_ok-sort_of.field-0) (parts_at after) c.open_parameters.result c.in_ok-sort_of.ensures.outcome
    (subst (λ T. ComesTo t (open_form c.args.parameters c.args.indices T) (g.A.Asks.left c.sort_of.new.asks) (parts_at after) (g.A.Asks.left c.open_parameters.new.asks) c.open_parameters.result)
    (c.in_ok-sort_of.ensures.keeps.trees.same c.args.ty c.requires) c.open_parameters.ensures.outcome)
