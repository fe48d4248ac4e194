-- What is written of the sections of a file with derivations.
use Rattle.std.specs.Prelude.{ℕ, ◌+◌, Bool, true, false, List, [], ◌∷◌, ◌++◌, length, codes}
use Rattle.std.specs.Prelude.{if◌then◌else◌}
use Rattle.lk_rulebook.specs.Units.{Library}
use Rattle.lk_written.specs.Outcomes.{Outcome, holds, unwritten, block, at_fault}
use Rattle.lk_text.specs.Text.{name_word, title_text, counted_text}
use Rattle.lk_text.specs.declared.outcomes.OutcomeKind.{OutcomeKind}
use Rattle.lk_text.specs.declared.outcomes.OutcomeKind.TheVariants.{Ok, Bad, None, Block}

-- the line of unit n of this name; of a section at fault with the line of the file
abbrev pub outcome_line : ℕ → List ℕ → Outcome → List ℕ
outcome_line n name holds = title_text (codes "ok") n name
outcome_line n name (at_fault l) =
    title_text (codes "bad") n (name ++ counted_text (codes " line ") l)
outcome_line n name unwritten = title_text (codes "none") n name
outcome_line n name block = title_text (codes "block") n name

-- the lines of the units from number n on
abbrev pub outcome_lines : ℕ → Library → List Outcome → List ℕ
outcome_lines n [] os = []
outcome_lines n (u ∷ us) [] = []
outcome_lines n (u ∷ us) (o ∷ os) = outcome_line n (name_word u) o ++ outcome_lines (n + 1) us os

-- whether an outcome is of this kind
abbrev pub is_outcome : OutcomeKind → Outcome → Bool
is_outcome Ok holds = true
is_outcome Ok (at_fault l) = false
is_outcome Ok unwritten = false
is_outcome Ok block = false
is_outcome Bad holds = false
is_outcome Bad (at_fault l) = true
is_outcome Bad unwritten = false
is_outcome Bad block = false
is_outcome None holds = false
is_outcome None (at_fault l) = false
is_outcome None unwritten = true
is_outcome None block = false
is_outcome Block holds = false
is_outcome Block (at_fault l) = false
is_outcome Block unwritten = false
is_outcome Block block = true

-- how many are of this kind
abbrev pub count_outcomes : OutcomeKind → List Outcome → ℕ
count_outcomes k [] = 0
count_outcomes k (o ∷ os) =
    if is_outcome k o then count_outcomes k os + 1 else count_outcomes k os

-- the last line
abbrev pub outcome_summary : List Outcome → List ℕ
outcome_summary os =
    counted_text (codes "units ") (length os) ++ (counted_text (codes " ok ") (count_outcomes Ok os)
    ++ (counted_text (codes " bad ") (count_outcomes Bad os)
    ++ (counted_text (codes " none ") (count_outcomes None os)
    ++ (counted_text (codes " block ") (count_outcomes Block os) ++ 10 ∷ []))))

-- the whole text for these units and what comes of their sections
abbrev pub replay_text : Library → List Outcome → List ℕ
replay_text us os = outcome_lines 0 us os ++ outcome_summary os
