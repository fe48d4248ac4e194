use Rattle.std.proofs.Common.{◌≡◌, ◌<◌, ◌++◌, map, length}
use Rattle.std.specs.Prelude.{All}
use Rattle.lk_units.specs.Held.{rule_at_place}
use Rattle.lk_units.proofs.stating.rules_at.Given as goal

-- what was found, and the rules of the places that are left
abbrev pub invariant-loop-place : goal.invariant-loop-place
invariant-loop-place l = (l.found.items ++ map (rule_at_place l.rules) l.rest ≡ map (rule_at_place l.rules) l.places) × All (λ i. i < length l.rules) l.rest

abbrev pub decreases-loop-place : goal.decreases-loop-place
decreases-loop-place l = length l.rest
