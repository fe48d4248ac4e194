use Rattle.std.proofs.Common.{◌≡◌, ◌<◌, length, map, All}
use Rattle.lk_store.specs.Contents.{tree_at, Extends}
use Rattle.lk_env.specs.Units.{rule_at, IsRuleIn}
use Rattle.lk_inductive.specs.Recursors.{rules_of}
use Rattle.lk_inductive.specs.Compare.{rules_steps}
use Rattle.lk_block.specs.Shapes.{shape_at, constructor_shape_at, IsConstructorShapeIn}
use Rattle.lk_recursor.specs.Fronts.{read_by}
use Rattle.lk_recursor.specs.Comparisons.{stated_of, own_of}
use Rattle.lk_declaration.proofs.Leading.{Leads}
use Rattle.lk_recursor.proofs.comparing.check_rules.Given as goal

abbrev pub invariant-rules : goal.invariant-rules
invariant-rules g l =
    let before = g.A.Terms.contents l.fn.asks in
    let now = g.A.Terms.contents l.asks in
    let stated = stated_of before l.fn.pair in
    let own = own_of before l.fn.pair in
    record {
      keeps : Extends before now;
      same_standing : g.A.Asks.standing l.asks ≡ g.A.Asks.standing l.fn.asks;
      rules_in : All (IsRuleIn before) l.rules;
      minors_in : All (λ m. m < length before.trees) l.minors;
      constructors_in : All (IsConstructorShapeIn before) l.constructors;
      leads : Leads (g.A.Asks.standing l.fn.asks) (rules_steps stated own stated.recursor.rules own.recursor.rules) (g.A.Asks.left l.fn.asks)
          (rules_steps stated own (map (rule_at before) l.rules) (rules_of (read_by before l.fn.pair.shared.shape.now l.fn.pair.shared.front.now) (shape_at before l.fn.pair.shared.shape.now) (map (tree_at before) l.minors) (map (constructor_shape_at before) l.constructors))) (g.A.Asks.left l.asks);
    }

abbrev pub decreases-rules : goal.decreases-rules
decreases-rules g l = length l.rules
