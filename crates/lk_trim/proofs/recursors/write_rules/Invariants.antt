use Rattle.std.proofs.Common.{◌≡◌, length, map}
use Rattle.std.specs.Prelude.{All}
use Rattle.lk_env.specs.Units.{rule_at, IsRuleIn}
use Rattle.lk_trim.specs.Units.{write_rules}
use Rattle.lk_trim.specs.Stored.{file_at, AreNumbersIn}
use Rattle.lk_trim.proofs.recursors.write_rules.Given as goal

abbrev pub invariant-loop-rule : goal.invariant-loop-rule
invariant-loop-rule g l =
    let c = g.T.Terms.contents l.store in
    record {
      numbers : AreNumbersIn c l.writer.numbers;
      known : All (IsRuleIn c) l.rest;
      leads : write_rules (map (rule_at c) l.rest) (file_at c l.writer) ≡ write_rules (map (rule_at c) l.rules) (file_at c l.fn.writer);
    }

abbrev pub decreases-loop-rule : goal.decreases-loop-rule
decreases-loop-rule g l = length l.rest
