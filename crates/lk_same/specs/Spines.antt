-- Two applications, compared head by head and argument by argument.
use Rattle.std.specs.Prelude.{nat_eq, ◌∷◌, length, if◌then◌else◌}
use Rattle.lk_tree.specs.Tree.{Tree}
use Rattle.lk_tree.specs.Spine.{head, args}
use Rattle.lk_questions.specs.Pairs.{Line, same_all, answers_yes, goes_on}

-- the heads, then the arguments in order, where both have as many
abbrev pub by_spines : Tree → Tree → Line
by_spines a b = if nat_eq (length (args a)) (length (args b)) then answers_yes (same_all (head a ∷ args a) (head b ∷ args b)) else goes_on
