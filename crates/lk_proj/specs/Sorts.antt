-- Sorts, of propositions or not.
use Rattle.std.specs.Prelude.{◌≡◌, Bool, Option, Some, None}
use Rattle.lk_tree.specs.Tree.{Level, Tree, sort}
use Rattle.lk_tree.specs.Level.{is_zero_level}
use Rattle.lk_tree.specs.declared.rule.Rule.TheVariants.{NotASort}
use Rattle.lk_questions.specs.Program.{refuse}
use Rattle.lk_questions.specs.Steps.{as_sort}

-- the sort of propositions or not, and none of what is no sort
abbrev pub IsPropIf : Tree → Option Bool → Type 0
IsPropIf K (Some q) = (l : Level) × (K ≡ sort l) × (q ≡ is_zero_level l)
IsPropIf K None = as_sort K ≡ refuse NotASort
