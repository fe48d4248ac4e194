use Rattle.std.proofs.Common.{◌≡◌, ◌+◌, ℕ, length, map}
use Rattle.std.specs.Prelude.{All, slice_get}
use Rattle.lk_questions.specs.Iota.{fitting_rule}
use Rattle.lk_store.specs.Contents.{name_at}
use Rattle.lk_env.specs.Units.{rule_at, IsRuleIn}
use Rattle.lk_derive_iota.proofs.rules.placed_rule.Given as goal

abbrev pub invariant-rules : goal.invariant-rules
invariant-rules g l =
    let c = g.T.Terms.contents l.terms in
    record {
      known : All (IsRuleIn c) l.rest;
      same : fitting_rule (map (rule_at c) l.rest) (name_at c l.constructor.name) l.constructor.parameters
          l.count ≡ fitting_rule (map (rule_at c) l.fn.rules) (name_at c l.constructor.name)
          l.constructor.parameters l.count;
      at : (i : ℕ) → slice_get l.rest i ≡ slice_get l.fn.rules (l.place + i);
      many : l.place + length l.rest ≡ length l.fn.rules;
    }

abbrev pub decreases-rules : goal.decreases-rules
decreases-rules g l = length l.rest
