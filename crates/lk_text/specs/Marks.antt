-- What is noted of each unit under a policy.
use Rattle.std.specs.Prelude.{Bool, true, List, map, if◌then◌else◌}
use Rattle.lk_rulebook.specs.Units.{LibraryUnit, Library}
use Rattle.lk_reach.specs.Axioms.{is_axiom}
use Rattle.lk_text.specs.Text.{name_word}
use Rattle.lk_text.specs.Policy.{Policy, allows_name}

-- of an axiom, whether it is allowed
abbrev pub mark_of : Policy → LibraryUnit → Bool
mark_of p u = if is_axiom u then allows_name p (name_word u) else true

abbrev pub marks_of : Policy → Library → List Bool
marks_of p us = map (mark_of p) us
