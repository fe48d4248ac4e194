use Rattle.std.proofs.Common.{◌<◌, length, map, ap, ◌∙◌}
use Rattle.std.proofs.lemmas.Result.{err_from_is_err_and}
use Rattle.lk_store.specs.Contents.{tree_at}
use Rattle.lk_store.proofs.Extending.{Extends-trans}
use Rattle.lk_lists.proofs.Lists.{rest_have, first_has, none_left}
use Rattle.lk_block.proofs.Overs.{over_next, over_halt, over_end}
use Rattle.lk_block.proofs.over.over.Goals as goal

pub returns-in_err-rest-clause-outcome : goal.returns-in_err-rest-clause-outcome
returns-in_err-rest-clause-outcome g c =
    let before = g.A.Terms.contents c.args.asks.now in
    let now = g.A.Terms.contents c.parameters.asks in
    let known = first_has (λ x. x < length before.trees) c.parameters.more.now c.in-Some.parameter.now c.in-Some.others.now c.in-Some.ensures.cases.0 c.parameters.invariant.more_in in
    let p = err_from_is_err_and c.from_residual.result c.from_residual.ensures.1 in
    rw (p.1, p.2) (over_halt (g.A.Asks.standing c.args.asks.now) (g.A.Asks.standing c.parameters.asks) c.parameters.invariant.same_standing
    (map (tree_at before) c.args.parameters.now) (tree_at before c.args.e) (g.A.Asks.left c.args.asks.now) (map (tree_at before) c.parameters.more.now) (tree_at now c.parameters.rest) (g.A.Asks.left c.parameters.asks) c.parameters.invariant.leads
    (tree_at before c.in-Some.parameter.now) (tree_at now c.in-Some.parameter.now) (map (tree_at before) c.in-Some.others.now) c.in_err-rest.field-0.0 (ap (map (tree_at before)) c.in-Some.ensures.cases.0)
    (c.parameters.invariant.keeps.trees.same c.in-Some.parameter.now known) c.in_err-rest.ensures.outcome)

pub parameters-preserved : goal.parameters-preserved
parameters-preserved g c =
    let before = g.A.Terms.contents c.args.asks.now in
    let now = g.A.Terms.contents c.parameters.asks in
    let after = g.A.Terms.contents c.put_parameter.new.asks in
    let known = first_has (λ x. x < length before.trees) c.parameters.more.now c.in-Some.parameter.now c.in-Some.others.now c.in-Some.ensures.cases.0 c.parameters.invariant.more_in in
    record {
      keeps = Extends-trans before now after c.parameters.invariant.keeps c.in_ok-rest.ensures.keeps;
      same_standing = c.in_ok-rest.ensures.stays ∙ c.parameters.invariant.same_standing;
      more_in = rest_have (λ x. x < length before.trees) c.parameters.more.now c.in-Some.parameter.now c.in-Some.others.now c.in-Some.ensures.cases.0 c.parameters.invariant.more_in;
      rest_in = c.in_ok-rest.ensures.known;
      leads =
          over_next (g.A.Asks.standing c.args.asks.now) (g.A.Asks.standing c.parameters.asks) c.parameters.invariant.same_standing
          (map (tree_at before) c.args.parameters.now) (tree_at before c.args.e) (g.A.Asks.left c.args.asks.now) (map (tree_at before) c.parameters.more.now) (tree_at now c.parameters.rest) (g.A.Asks.left c.parameters.asks) c.parameters.invariant.leads
          (tree_at before c.in-Some.parameter.now) (tree_at now c.in-Some.parameter.now) (map (tree_at before) c.in-Some.others.now) _ (g.A.Asks.left c.put_parameter.new.asks) (ap (map (tree_at before)) c.in-Some.ensures.cases.0)
          (c.parameters.invariant.keeps.trees.same c.in-Some.parameter.now known) c.in_ok-rest.ensures.outcome;
    }

pub returns-clause-outcome : goal.returns-clause-outcome
returns-clause-outcome g c =
    let before = g.A.Terms.contents c.args.asks.now in
    let now = g.A.Terms.contents c.parameters.asks in
    over_end (g.A.Asks.standing c.args.asks.now) (g.A.Asks.standing c.parameters.asks) c.parameters.invariant.same_standing
    (map (tree_at before) c.args.parameters.now) (tree_at before c.args.e) (g.A.Asks.left c.args.asks.now) (map (tree_at before) c.parameters.more.now) (tree_at now c.parameters.rest) (g.A.Asks.left c.parameters.asks) c.parameters.invariant.leads
    (none_left (tree_at before) c.parameters.more.now c.in_default.ensures.cases)
