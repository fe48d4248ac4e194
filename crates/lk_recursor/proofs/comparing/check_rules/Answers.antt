use Rattle.std.proofs.Common.{◌<◌, length, map, refl, ◌∙◌, arith}
use Rattle.std.proofs.lemmas.Result.{err_from_is_err_and}
use Rattle.lk_questions.specs.Declarations.{Yes, checked}
use Rattle.lk_store.specs.Contents.{tree_at}
use Rattle.lk_store.proofs.Extending.{Extends-trans}
use Rattle.lk_env.specs.Units.{rule_at, IsRuleIn}
use Rattle.lk_inductive.specs.Recursors.{rules_of}
use Rattle.lk_inductive.specs.Compare.{rules_steps}
use Rattle.lk_block.specs.Shapes.{shape_at, constructor_shape_at, IsConstructorShapeIn}
use Rattle.lk_lists.proofs.Lists.{rest_have, first_has}
use Rattle.lk_recursor.specs.Fronts.{read_by}
use Rattle.lk_recursor.specs.Comparisons.{stated_of, own_of, renamed_value, rule_form}
use Rattle.lk_block.proofs.Shaping.{constructor-known}
use Rattle.lk_recursor.proofs.Compared.{comparison-known}
use Rattle.lk_recursor.proofs.Checked.{rules_step, no_rule, no_minor, no_constructor}
use Rattle.lk_declaration.proofs.Leading.{split_bind, leads_on, leads_stop, leads_end}
use Rattle.lk_recursor.proofs.comparing.check_rules.Goals as goal

pub returns-in-None-clause-outcome : goal.returns-in-None-clause-outcome
returns-in-None-clause-outcome g c =
    let before = g.A.Terms.contents c.args.asks.now in
    let now = g.A.Terms.contents c.rules.asks in
    let pair = c.args.pair.now in
    let inv = c.rules.invariant in
    let stated = stated_of before pair in
    let own = own_of before pair in
    let shape = shape_at before pair.shared.shape.now in
    let back = read_by before pair.shared.shape.now pair.shared.front.now in
    let all = rules_steps stated own stated.recursor.rules own.recursor.rules in
    let rest = rules_steps stated own (map (rule_at before) c.rules.rules.now) (rules_of back shape (map (tree_at before) c.rules.minors.now) (map (constructor_shape_at before) c.rules.constructors.now)) in
    leads_end (g.A.Asks.standing c.args.asks.now) all (g.A.Asks.left c.args.asks.now) rest (g.A.Asks.left c.rules.asks) checked inv.leads
    (no_minor before stated own back shape c.rules.rules.now c.rules.minors.now c.rules.constructors.now c.in-None.ensures.cases)

pub returns-in-None-split_first-clause-outcome : goal.returns-in-None-split_first-clause-outcome
returns-in-None-split_first-clause-outcome g c =
    let before = g.A.Terms.contents c.args.asks.now in
    let now = g.A.Terms.contents c.rules.asks in
    let pair = c.args.pair.now in
    let inv = c.rules.invariant in
    let stated = stated_of before pair in
    let own = own_of before pair in
    let shape = shape_at before pair.shared.shape.now in
    let back = read_by before pair.shared.shape.now pair.shared.front.now in
    let all = rules_steps stated own stated.recursor.rules own.recursor.rules in
    let rest = rules_steps stated own (map (rule_at before) c.rules.rules.now) (rules_of back shape (map (tree_at before) c.rules.minors.now) (map (constructor_shape_at before) c.rules.constructors.now)) in
    leads_end (g.A.Asks.standing c.args.asks.now) all (g.A.Asks.left c.args.asks.now) rest (g.A.Asks.left c.rules.asks) checked inv.leads
    (no_constructor before stated own back shape c.rules.rules.now c.rules.minors.now c.rules.constructors.now c.in-None-split_first.ensures.cases)

pub returns-clause-outcome : goal.returns-clause-outcome
returns-clause-outcome g c =
    let before = g.A.Terms.contents c.args.asks.now in
    let now = g.A.Terms.contents c.rules.asks in
    let pair = c.args.pair.now in
    let inv = c.rules.invariant in
    let stated = stated_of before pair in
    let own = own_of before pair in
    let shape = shape_at before pair.shared.shape.now in
    let back = read_by before pair.shared.shape.now pair.shared.front.now in
    let all = rules_steps stated own stated.recursor.rules own.recursor.rules in
    let rest = rules_steps stated own (map (rule_at before) c.rules.rules.now) (rules_of back shape (map (tree_at before) c.rules.minors.now) (map (constructor_shape_at before) c.rules.constructors.now)) in
    leads_end (g.A.Asks.standing c.args.asks.now) all (g.A.Asks.left c.args.asks.now) rest (g.A.Asks.left c.rules.asks) checked inv.leads
    (no_rule before stated own back shape c.rules.rules.now c.rules.minors.now c.rules.constructors.now c.in_default.ensures.cases)

pub check_rule-requires-clause-pair_is : goal.check_rule-requires-clause-pair_is
check_rule-requires-clause-pair_is g c =
    comparison-known (g.A.Terms.contents c.args.asks.now) (g.A.Terms.contents c.rules.asks) c.rules.invariant.keeps c.args.pair.now c.requires

pub check_rule-requires-clause-minor_in : goal.check_rule-requires-clause-minor_in
check_rule-requires-clause-minor_in g c =
    let before = g.A.Terms.contents c.args.asks.now in
    let now = g.A.Terms.contents c.rules.asks in
    let pair = c.args.pair.now in
    let inv = c.rules.invariant in
    let minor_in = first_has (λ m. m < length before.trees) c.rules.minors.now c.in-Some-split_first.minor.now c.in-Some-split_first.more_minors.now c.in-Some-split_first.ensures.cases.0 inv.minors_in in
    let longer = inv.keeps.trees.longer in
    omega arith

pub check_rule-requires-clause-constructor_in : goal.check_rule-requires-clause-constructor_in
check_rule-requires-clause-constructor_in g c =
    let before = g.A.Terms.contents c.args.asks.now in
    let now = g.A.Terms.contents c.rules.asks in
    let pair = c.args.pair.now in
    let inv = c.rules.invariant in
    let constructor_in = first_has (IsConstructorShapeIn before) c.rules.constructors.now c.in-Some-split_first-2.constructor.now c.in-Some-split_first-2.others.now c.in-Some-split_first-2.ensures.cases.0 inv.constructors_in in
    constructor-known before now inv.keeps c.in-Some-split_first-2.constructor.now constructor_in

pub check_rule-requires-clause-value_in : goal.check_rule-requires-clause-value_in
check_rule-requires-clause-value_in g c =
    let before = g.A.Terms.contents c.args.asks.now in
    let now = g.A.Terms.contents c.rules.asks in
    let pair = c.args.pair.now in
    let inv = c.rules.invariant in
    let rule_in = first_has (IsRuleIn before) c.rules.rules.now c.in-Some.rule.now c.in-Some.more_rules.now c.in-Some.ensures.cases.0 inv.rules_in in
    let value_in = rule_in.value_in in
    let longer = inv.keeps.trees.longer in
    omega arith

pub returns-in_err-check_rule-in-Some-split_first-2-clause-outcome : goal.returns-in_err-check_rule-in-Some-split_first-2-clause-outcome
returns-in_err-check_rule-in-Some-split_first-2-clause-outcome g c =
    let before = g.A.Terms.contents c.args.asks.now in
    let now = g.A.Terms.contents c.rules.asks in
    let pair = c.args.pair.now in
    let inv = c.rules.invariant in
    let rule_in = first_has (IsRuleIn before) c.rules.rules.now c.in-Some.rule.now c.in-Some.more_rules.now c.in-Some.ensures.cases.0 inv.rules_in in
    let minor_in = first_has (λ m. m < length before.trees) c.rules.minors.now c.in-Some-split_first.minor.now c.in-Some-split_first.more_minors.now c.in-Some-split_first.ensures.cases.0 inv.minors_in in
    let constructor_in = first_has (IsConstructorShapeIn before) c.rules.constructors.now c.in-Some-split_first-2.constructor.now c.in-Some-split_first-2.others.now c.in-Some-split_first-2.ensures.cases.0 inv.constructors_in in
    let stated = stated_of before pair in
    let own = own_of before pair in
    let shape = shape_at before pair.shared.shape.now in
    let back = read_by before pair.shared.shape.now pair.shared.front.now in
    let all = rules_steps stated own stated.recursor.rules own.recursor.rules in
    let rest = rules_steps stated own (map (rule_at before) c.rules.rules.now) (rules_of back shape (map (tree_at before) c.rules.minors.now) (map (constructor_shape_at before) c.rules.constructors.now)) in
    let more = rules_steps stated own (map (rule_at before) c.in-Some.more_rules.now) (rules_of back shape (map (tree_at before) c.in-Some-split_first.more_minors.now) (map (constructor_shape_at before) c.in-Some-split_first-2.others.now)) in
    let step = rules_step before now inv.keeps pair c.requires c.rules.rules.now c.in-Some.more_rules.now c.in-Some.rule.now c.rules.minors.now c.in-Some-split_first.more_minors.now c.in-Some-split_first.minor.now
    c.rules.constructors.now c.in-Some-split_first-2.others.now c.in-Some-split_first-2.constructor.now c.in-Some.ensures.cases.0 c.in-Some-split_first.ensures.cases.0 c.in-Some-split_first-2.ensures.cases.0 rule_in.value_in minor_in constructor_in in
    let form = rule_form (tree_at now c.in-Some.rule.now.value) (renamed_value now pair c.in-Some-split_first.minor.now c.in-Some-split_first-2.constructor.now) in
    let p = err_from_is_err_and c.from_residual.result c.from_residual.ensures.1 in
    rw (p.1, p.2) (leads_stop (g.A.Asks.standing c.args.asks.now) (g.A.Asks.standing c.rules.asks) inv.same_standing
    all (g.A.Asks.left c.args.asks.now) rest (g.A.Asks.left c.rules.asks) inv.leads form (λ (u : Yes). more) (split_bind rest form (λ (u : Yes). more) step) c.in_err-check_rule-in-Some-split_first-2.field-0.0 c.in_err-check_rule-in-Some-split_first-2.ensures.outcome)

pub rules-preserved : goal.rules-preserved
rules-preserved g c =
    let before = g.A.Terms.contents c.args.asks.now in
    let now = g.A.Terms.contents c.rules.asks in
    let pair = c.args.pair.now in
    let inv = c.rules.invariant in
    let rule_in = first_has (IsRuleIn before) c.rules.rules.now c.in-Some.rule.now c.in-Some.more_rules.now c.in-Some.ensures.cases.0 inv.rules_in in
    let minor_in = first_has (λ m. m < length before.trees) c.rules.minors.now c.in-Some-split_first.minor.now c.in-Some-split_first.more_minors.now c.in-Some-split_first.ensures.cases.0 inv.minors_in in
    let constructor_in = first_has (IsConstructorShapeIn before) c.rules.constructors.now c.in-Some-split_first-2.constructor.now c.in-Some-split_first-2.others.now c.in-Some-split_first-2.ensures.cases.0 inv.constructors_in in
    let stated = stated_of before pair in
    let own = own_of before pair in
    let shape = shape_at before pair.shared.shape.now in
    let back = read_by before pair.shared.shape.now pair.shared.front.now in
    let all = rules_steps stated own stated.recursor.rules own.recursor.rules in
    let rest = rules_steps stated own (map (rule_at before) c.rules.rules.now) (rules_of back shape (map (tree_at before) c.rules.minors.now) (map (constructor_shape_at before) c.rules.constructors.now)) in
    let more = rules_steps stated own (map (rule_at before) c.in-Some.more_rules.now) (rules_of back shape (map (tree_at before) c.in-Some-split_first.more_minors.now) (map (constructor_shape_at before) c.in-Some-split_first-2.others.now)) in
    let step = rules_step before now inv.keeps pair c.requires c.rules.rules.now c.in-Some.more_rules.now c.in-Some.rule.now c.rules.minors.now c.in-Some-split_first.more_minors.now c.in-Some-split_first.minor.now
    c.rules.constructors.now c.in-Some-split_first-2.others.now c.in-Some-split_first-2.constructor.now c.in-Some.ensures.cases.0 c.in-Some-split_first.ensures.cases.0 c.in-Some-split_first-2.ensures.cases.0 rule_in.value_in minor_in constructor_in in
    let form = rule_form (tree_at now c.in-Some.rule.now.value) (renamed_value now pair c.in-Some-split_first.minor.now c.in-Some-split_first-2.constructor.now) in
    record {
      keeps = Extends-trans before now (g.A.Terms.contents c.check_rule.new.asks) inv.keeps c.in_ok-check_rule-in-Some-split_first-2.ensures.keeps;
      same_standing = c.in_ok-check_rule-in-Some-split_first-2.ensures.stays ∙ inv.same_standing;
      rules_in = rest_have (IsRuleIn before) c.rules.rules.now c.in-Some.rule.now c.in-Some.more_rules.now c.in-Some.ensures.cases.0 inv.rules_in;
      minors_in = rest_have (λ m. m < length before.trees) c.rules.minors.now c.in-Some-split_first.minor.now c.in-Some-split_first.more_minors.now c.in-Some-split_first.ensures.cases.0 inv.minors_in;
      constructors_in = rest_have (IsConstructorShapeIn before) c.rules.constructors.now c.in-Some-split_first-2.constructor.now c.in-Some-split_first-2.others.now c.in-Some-split_first-2.ensures.cases.0 inv.constructors_in;
      leads = leads_on (g.A.Asks.standing c.args.asks.now) (g.A.Asks.standing c.rules.asks) inv.same_standing
          all (g.A.Asks.left c.args.asks.now) rest (g.A.Asks.left c.rules.asks) inv.leads form (λ (u : Yes). more) (split_bind rest form (λ (u : Yes). more) step) checked (g.A.Asks.left c.check_rule.new.asks) more c.in_ok-check_rule-in-Some-split_first-2.ensures.outcome refl;
    }
