use Rattle.std.proofs.Common.{map, ap}
use Rattle.lk_env.specs.Units.{type_at, IsTypeIn}
use Rattle.lk_block.specs.Parts.{parts_at}
use Rattle.lk_lists.proofs.Lists.{rest_have}
use Rattle.lk_block.proofs.Firsts.{types_stop, types_give, types_kept}
use Rattle.lk_env.proofs.Stays.{types_in_stay}
use Rattle.lk_block.proofs.types.find_parts.Goals as goal

pub add_others-requires-clause-others_in : goal.add_others-requires-clause-others_in
add_others-requires-clause-others_in g c =
    let before = g.A.Terms.contents c.args.asks.now in
    let between = g.A.Terms.contents c.first_type.new.asks in
    types_in_stay before between c.in-Ok.ensures.keeps c.in-Some.others.now
    (rest_have (IsTypeIn before) c.args.types.now c.in-Some.first.now c.in-Some.others.now c.in-Some.ensures.cases.0 c.requires)

pub returns-in-Ok-clause-outcome : goal.returns-in-Ok-clause-outcome
returns-in-Ok-clause-outcome g c =
    let before = g.A.Terms.contents c.args.asks.now in
    let between = g.A.Terms.contents c.first_type.new.asks in
    let others = rest_have (IsTypeIn before) c.args.types.now c.in-Some.first.now c.in-Some.others.now c.in-Some.ensures.cases.0 c.requires in
    types_give (g.A.Asks.standing c.args.asks.now) (g.A.Asks.standing c.first_type.new.asks) c.in-Ok.ensures.stays
    c.args.parameters (type_at before c.in-Some.first.now) (map (type_at before) c.in-Some.others.now) (map (type_at between) c.in-Some.others.now) (map (type_at before) c.args.types.now) (g.A.Asks.left c.args.asks.now) (ap (map (type_at before)) c.in-Some.ensures.cases.0)
    (parts_at between c.in-Ok.parts) (g.A.Asks.left c.first_type.new.asks) (g.A.Asks.left c.add_others.new.asks) (parts_at (g.A.Terms.contents c.add_others.new.asks)) c.add_others.result c.in-Ok.ensures.outcome
    (λ ps l. types_kept before between ps l c.in-Some.others.now c.in-Ok.ensures.keeps others) c.add_others.ensures.outcome

pub returns-in-Err-clause-outcome : goal.returns-in-Err-clause-outcome
returns-in-Err-clause-outcome g c =
    let before = g.A.Terms.contents c.args.asks.now in
    types_stop (g.A.Asks.standing c.args.asks.now) (g.A.Asks.standing c.first_type.new.asks) c.in-Err.ensures.stays
    c.args.parameters (type_at before c.in-Some.first.now) (map (type_at before) c.in-Some.others.now) (map (type_at before) c.in-Some.others.now) (map (type_at before) c.args.types.now) (g.A.Asks.left c.args.asks.now) (ap (map (type_at before)) c.in-Some.ensures.cases.0)
    c.in-Err.stop c.in-Err.ensures.outcome
