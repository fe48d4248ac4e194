use Rattle.std.proofs.Common.{◌≡◌, length, map}
use Rattle.std.specs.Prelude.{All}
use Rattle.lk_questions.specs.Iota.{fitting_rule}
use Rattle.lk_store.specs.Contents.{name_at}
use Rattle.lk_env.specs.Units.{rule_at, IsRuleIn}
use Rattle.lk_iota.proofs.rule.fitting_rule.Given as goal

abbrev pub invariant-rules : goal.invariant-rules
invariant-rules g l =
    let c = g.T.Terms.contents l.terms in
    record {
      known : All (IsRuleIn c) l.rest;
      same : fitting_rule (map (rule_at c) l.rest) (name_at c l.constructor.name) l.constructor.parameters
          l.count ≡ fitting_rule (map (rule_at c) l.fn.rules) (name_at c l.constructor.name)
          l.constructor.parameters l.count;
    }

abbrev pub decreases-rules : goal.decreases-rules
decreases-rules g l = length l.rest
