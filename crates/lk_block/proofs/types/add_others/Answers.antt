use Rattle.std.proofs.Common.{map, ap}
use Rattle.std.proofs.lemmas.Result.{err_from_is_err_and}
use Rattle.lk_store.specs.Contents.{level_at, tree_at}
use Rattle.lk_env.specs.Units.{type_at}
use Rattle.lk_subst.specs.Numbers.{trees-steady}
use Rattle.lk_block.specs.Parts.{lists_at, parts_at}
use Rattle.lk_block.proofs.Firsts.{others_goes, others_halt}
use Rattle.lk_block.proofs.types.add_others.Goals as goal

pub returns-clause-outcome : goal.returns-clause-outcome
returns-clause-outcome g c =
    let before = g.A.Terms.contents c.args.asks.now in
    let after = g.A.Terms.contents c.more_types.new.asks in
    others_goes (g.A.Asks.standing c.args.asks.now) (parts_at before c.args.parts) (map (type_at before) c.args.others.now) (g.A.Asks.left c.args.asks.now)
    (map (tree_at before) c.deref.result.now) (ap (map (tree_at before)) c.deref.ensures.value)
    (lists_at after c.more_types.new.indices.items) (g.A.Asks.left c.more_types.new.asks) (map (tree_at after) c.args.parts.parameters.items) (level_at after c.args.parts.sort) c.in_ok-more_types.ensures.outcome
    (trees-steady before after c.args.parts.parameters.items c.in_ok-more_types.ensures.keeps c.requires.parts_in.parameters_in) (c.in_ok-more_types.ensures.keeps.levels.same c.args.parts.sort c.requires.parts_in.sort_in)

pub returns-in_err-more_types-clause-outcome : goal.returns-in_err-more_types-clause-outcome
returns-in_err-more_types-clause-outcome g c =
    let before = g.A.Terms.contents c.args.asks.now in
    let p = err_from_is_err_and c.from_residual.result c.from_residual.ensures.1 in
    rw (p.1, p.2) (others_halt (g.A.Asks.standing c.args.asks.now) (parts_at before c.args.parts) (map (type_at before) c.args.others.now) (g.A.Asks.left c.args.asks.now)
    (map (tree_at before) c.deref.result.now) (ap (map (tree_at before)) c.deref.ensures.value) c.in_err-more_types.field-0.0 c.in_err-more_types.ensures.outcome)
