use Rattle.std.proofs.Common.{sym, ◌∙◌}
use Rattle.lk_env.specs.Units.{IsRuleIn}
use Rattle.lk_block.specs.Shapes.{IsConstructorShapeIn}
use Rattle.lk_lists.proofs.Lists.{rest_have}
use Rattle.lk_restore.specs.Originals.{restoring_at}
use Rattle.lk_recursor.proofs.Agreeing.{no_constructor_left, no_minor_left, no_stated_rule, rules_differ, rules_more}
use Rattle.lk_recursor.proofs.counts.rules_agree.Goals as goal

pub returns-in-None : goal.returns-in-None
returns-in-None g c = λ s. no_minor_left (g.T.Terms.contents c.args.terms.now) (restoring_at (g.T.Terms.contents c.args.terms.now) c.args.originals.now s) s c.is_empty.result c.constructors.left.now c.constructors.premises.now c.constructors.rest.now c.in-None.ensures.cases c.is_empty.ensures
    ∙ sym (c.constructors.invariant.same s)

pub constructors-preserved : goal.constructors-preserved
constructors-preserved g c =
    let d = g.T.Terms.contents c.args.terms.now in
    let inv = c.constructors.invariant in
    let rules_split = c.in-Some-split_first-2.ensures.cases.0 in
    let rest_split = c.in-Some.ensures.cases.0 in
    record {
      left_in = rest_have (IsRuleIn d) c.constructors.left.now c.in-Some-split_first-2.rule.now c.in-Some-split_first-2.more.now rules_split inv.left_in;
      rest_in = rest_have (IsConstructorShapeIn d) c.constructors.rest.now c.in-Some.constructor.now c.in-Some.others.now rest_split inv.rest_in;
      same = λ s. inv.same s ∙ rules_more d (restoring_at d c.args.originals.now s) s c.constructors.left.now c.in-Some-split_first-2.more.now c.in-Some-split_first-2.rule.now c.constructors.premises.now c.in-Some-split_first.more_premises.now c.in-Some-split_first.field-0-0.now
          c.constructors.rest.now c.in-Some.others.now c.in-Some.constructor.now rules_split c.in-Some-split_first.ensures.cases.0 rest_split (sym c.rule_agrees.ensures ∙ c.if-not-rule_agrees.false);
    }

pub returns : goal.returns
returns g c = λ s. no_constructor_left (g.T.Terms.contents c.args.terms.now) (restoring_at (g.T.Terms.contents c.args.terms.now) c.args.originals.now s) s c.is_empty-2.result c.constructors.left.now c.constructors.premises.now c.constructors.rest.now c.in_default.ensures.cases c.is_empty-2.ensures
    ∙ sym (c.constructors.invariant.same s)

pub returns-in-None-split_first : goal.returns-in-None-split_first
returns-in-None-split_first g c = λ s.
    let d = g.T.Terms.contents c.args.terms.now in
    no_stated_rule d (restoring_at d c.args.originals.now s) s c.constructors.left.now c.constructors.premises.now c.in-Some-split_first.more_premises.now c.in-Some-split_first.field-0-0.now c.constructors.rest.now c.in-Some.others.now c.in-Some.constructor.now
    c.in-None-split_first.ensures.cases c.in-Some-split_first.ensures.cases.0 c.in-Some.ensures.cases.0
    ∙ sym (c.constructors.invariant.same s)

pub returns-then-not-rule_agrees : goal.returns-then-not-rule_agrees
returns-then-not-rule_agrees g c = λ s.
    let d = g.T.Terms.contents c.args.terms.now in
    rules_differ d (restoring_at d c.args.originals.now s) s c.constructors.left.now c.in-Some-split_first-2.more.now c.in-Some-split_first-2.rule.now c.constructors.premises.now c.in-Some-split_first.more_premises.now c.in-Some-split_first.field-0-0.now
    c.constructors.rest.now c.in-Some.others.now c.in-Some.constructor.now c.in-Some-split_first-2.ensures.cases.0 c.in-Some-split_first.ensures.cases.0 c.in-Some.ensures.cases.0 (sym c.rule_agrees.ensures ∙ c.if-not-rule_agrees.true)
    ∙ sym (c.constructors.invariant.same s)
