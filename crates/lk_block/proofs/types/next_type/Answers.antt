use Rattle.std.proofs.Common.{◌<◌, length, map, sym, ◌∙◌, arith}
use Rattle.std.proofs.lemmas.List.{length-map}
use Rattle.std.proofs.lemmas.Result.{err_from_is_err_and}
use Rattle.lk_tree.specs.Tree.{Level}
use Rattle.lk_questions.specs.Program.{◌>>=◌}
use Rattle.lk_questions.specs.Steps.{sort_of}
use Rattle.lk_inductive.specs.BlockSteps.{over}
use Rattle.lk_store.specs.Contents.{level_at, tree_at}
use Rattle.lk_subst.specs.Numbers.{trees-steady}
use Rattle.lk_block.specs.Forms.{end_form}
use Rattle.lk_block.proofs.Ends.{next_halts_later, next_gives}
use Rattle.lk_declaration.proofs.Running.{halts_first}
use Rattle.lk_block.proofs.types.next_type.Goals as goal

pub returns-in_err-sort_of-clause-outcome : goal.returns-in_err-sort_of-clause-outcome
returns-in_err-sort_of-clause-outcome g c =
    let before = g.A.Terms.contents c.args.asks.now in
    let ps = map (tree_at before) c.args.parameters.now in
    let p = err_from_is_err_and c.from_residual.result c.from_residual.ensures.1 in
    rw (p.1, p.2) (halts_first (g.A.Asks.standing c.args.asks.now) (sort_of (tree_at before c.args.ty)) (λ (s : Level). over ps (tree_at before c.args.ty) >>= λ r. end_form (length ps) c.args.indices (level_at before c.args.level) r)
    (g.A.Asks.left c.args.asks.now) c.in_err-sort_of.field-0.0 c.in_err-sort_of.ensures.outcome)

pub returns-in_err-rest-clause-outcome : goal.returns-in_err-rest-clause-outcome
returns-in_err-rest-clause-outcome g c =
    let before = g.A.Terms.contents c.args.asks.now in
    let between = g.A.Terms.contents c.sort_of.new.asks in
    let p = err_from_is_err_and c.from_residual-in_err-rest.result c.from_residual-in_err-rest.ensures.1 in
    rw (p.1, p.2) (next_halts_later (g.A.Asks.standing c.args.asks.now) (g.A.Asks.standing c.sort_of.new.asks) c.in_ok-sort_of.ensures.stays
    (map (tree_at before) c.args.parameters.now) (map (tree_at between) c.args.parameters.now) (tree_at before c.args.ty) (tree_at between c.args.ty) (level_at before c.args.level) (level_at between c.args.level) c.args.indices (g.A.Asks.left c.args.asks.now)
    (trees-steady before between c.args.parameters.now c.in_ok-sort_of.ensures.keeps c.requires.parameters_in) (c.in_ok-sort_of.ensures.keeps.trees.same c.args.ty c.requires.ty_in)
    (level_at between c.in_ok-sort_of.field-0) (g.A.Asks.left c.sort_of.new.asks) c.in_err-rest.field-0.0 c.in_ok-sort_of.ensures.outcome c.in_err-rest.ensures.outcome)

pub returns-clause-outcome : goal.returns-clause-outcome
returns-clause-outcome g c =
    let before = g.A.Terms.contents c.args.asks.now in
    let between = g.A.Terms.contents c.sort_of.new.asks in
    let after = g.A.Terms.contents c.over.new.asks in
    let known : c.args.level < length between.levels = let longer = c.in_ok-sort_of.ensures.keeps.levels.longer in let within = c.requires.level_in in omega arith in
    next_gives (g.A.Asks.standing c.args.asks.now) (g.A.Asks.standing c.sort_of.new.asks) c.in_ok-sort_of.ensures.stays
    (map (tree_at before) c.args.parameters.now) (map (tree_at between) c.args.parameters.now) (tree_at before c.args.ty) (tree_at between c.args.ty) (level_at before c.args.level) (level_at after c.args.level) c.args.indices (g.A.Asks.left c.args.asks.now)
    (trees-steady before between c.args.parameters.now c.in_ok-sort_of.ensures.keeps c.requires.parameters_in) (c.in_ok-sort_of.ensures.keeps.trees.same c.args.ty c.requires.ty_in)
    (g.A.Asks.standing c.over.new.asks) c.in_ok-rest.ensures.stays (level_at between c.in_ok-sort_of.field-0) (tree_at after c.in_ok-rest.rest) (length c.args.parameters.now)
    (g.A.Asks.left c.sort_of.new.asks) (g.A.Asks.left c.over.new.asks) (g.A.Asks.left c.end_at_level.new.asks) (λ v. map (tree_at (g.A.Terms.contents c.end_at_level.new.asks)) v.items) c.end_at_level.result
    (sym (length-map c.args.parameters.now (tree_at before))) (c.in_ok-rest.ensures.keeps.levels.same c.args.level known ∙ c.in_ok-sort_of.ensures.keeps.levels.same c.args.level c.requires.level_in)
    c.in_ok-sort_of.ensures.outcome c.in_ok-rest.ensures.outcome c.end_at_level.ensures.outcome
