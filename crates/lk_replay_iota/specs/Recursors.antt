-- A recursor with one of its rules.
use Rattle.std.specs.Prelude.{◌≡◌, ℕ, Bool, List, [], ◌∷◌, length, slice_get, Option, Some, None}
use Rattle.lk_rulebook.specs.Place.{Kind, Recursor, RecRule}
use Rattle.lk_rulebook.specs.Structures.{before_indices, before_major}
use Rattle.lk_questions.specs.Tests.{◌>>=◌}
use Rattle.lk_written.specs.Reducing.{the_recursor, the_rule}
use Rattle.lk_store.specs.Contents.{Contents}
use Rattle.lk_env.specs.declared.unit.RecursorRule.{RecursorRule}
use Rattle.lk_env.specs.Units.{rule_at, IsRuleIn}
use Rattle.lk_replay_iota.specs.declared.recursors.Ruled.{Ruled as StoredRuled}

-- what is asked of the recursor, and the rule
pub record Ruled : Type 0 where
  pub before : ℕ
  pub shared : ℕ
  pub k : Bool
  pub rule : RecRule

abbrev pub ruled_by : Recursor → RecRule → Ruled
ruled_by r x = record { before = before_major r; shared = before_indices r; k = r.k; rule = x }

-- with the rule at a place of its list, and with its only rule
abbrev pub nth_ruled : ℕ → Recursor → Option Ruled
nth_ruled i r = do
  x ← slice_get r.rules i
  Some (ruled_by r x)

abbrev pub only_ruled : Recursor → Option Ruled
only_ruled r = do
  x ← the_rule r.rules
  Some (ruled_by r x)

-- the same of a kind that is a recursor
abbrev pub ruled_in : (Recursor → Option Ruled) → Kind → Option Ruled
ruled_in f kind = do
  r ← the_recursor kind
  f r

-- what the numbers stand for
abbrev pub ruled_at : Contents → StoredRuled → Ruled
ruled_at c u = record {
  before = u.before;
  shared = u.shared;
  k = u.k;
  rule = rule_at c u.rule;
}

-- its numbers are those of the store
abbrev pub IsRuledIn : Contents → StoredRuled → Type 0
IsRuledIn c u = IsRuleIn c u.rule
