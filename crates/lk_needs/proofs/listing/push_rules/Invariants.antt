use Rattle.std.proofs.Common.{◌≡◌, ◌++◌, take}
use Rattle.std.specs.List.{flat_map}
use Rattle.lk_needs.specs.Things.{rule_things}
use Rattle.lk_needs.proofs.listing.push_rules.Given as goal

abbrev pub invariant-loop-rule : goal.invariant-loop-rule
invariant-loop-rule l = l.things.items ≡ l.initial.things.items ++ flat_map rule_things (take l.rule-index l.rules)
