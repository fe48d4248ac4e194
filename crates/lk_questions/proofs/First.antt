-- Equal trees.
use Rattle.std.proofs.Common.{◌≡◌, true, ap, if◌then◌else◌}
use Rattle.lk_tree.specs.Tree.{Tree}
use Rattle.lk_questions.specs.Query.{same}
use Rattle.lk_questions.specs.Program.{done}
use Rattle.lk_questions.specs.Steps.{is_same_tree}
use Rattle.lk_questions.specs.Same.{by_shape}
use Rattle.lk_questions.specs.Table.{steps}

pub same_too : (a b : Tree) → is_same_tree a b ≡ true → steps (same a b) ≡ done true
same_too a b h = ap (λ x. if x then done true else by_shape a b) h
