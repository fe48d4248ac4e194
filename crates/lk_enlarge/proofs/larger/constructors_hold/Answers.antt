use Rattle.std.proofs.Common.{map, ap, ◌∙◌}
use Rattle.lk_env.specs.Units.{constructor_at, IsConstructorIn}
use Rattle.lk_rulebook.specs.Place.{Ctor}
use Rattle.lk_mentions.specs.Names.{names_at}
use Rattle.lk_nested.specs.Findings.{found}
use Rattle.lk_nested.specs.Nestings.{nested_in}
use Rattle.lk_lists.proofs.Lists.{rest_have}
use Rattle.lk_enlarge.proofs.Holding.{hold_next}
use Rattle.lk_enlarge.proofs.larger.constructors_hold.Goals as goal

pub constructors-preserved : goal.constructors-preserved
constructors-preserved g c =
    let s = g.A.Terms.contents c.args.asks.now in
    let w = (g.A.Asks.standing c.args.asks.now).place in
    let ns = names_at s c.args.names.now in
    record {
      marked = c.in_ok-holds_nested.ensures.marks;
      walked = c.in_ok-holds_nested.ensures.walked;
      left_in = rest_have (IsConstructorIn s) c.constructors.left.now c.in-Some.constructor.now c.in-Some.more.now c.in-Some.ensures.cases.0 c.constructors.invariant.left_in;
      leads = c.constructors.invariant.leads
          ∙ hold_next (λ (k : Ctor). nested_in w ns k.type) (map (constructor_at s) c.constructors.left.now) (constructor_at s c.in-Some.constructor.now) (map (constructor_at s) c.in-Some.more.now) (ap (map (constructor_at s)) c.in-Some.ensures.cases.0)
          (c.in_ok-holds_nested.ensures.found ∙ ap found c.if-branch.false);
    }
