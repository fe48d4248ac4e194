use Rattle.std.proofs.Common.{◌≡◌, ◌++◌, take, map}
use Rattle.lk_env.specs.declared.unit.RecursorRule.{RecursorRule}
use Rattle.lk_axioms.proofs.stated.push_rules.Given as goal

abbrev pub invariant-loop-rule : goal.invariant-loop-rule
invariant-loop-rule l = l.trees.items ≡ l.initial.trees.items ++ map (λ (x : RecursorRule). x.value) (take l.rule-index l.rules)
