-- What is known of two proofs on the way.
use Rattle.std.specs.Prelude.{ℕ, ◌≡◌, true}
use Rattle.lk_tree.specs.Tree.{Tree}
use Rattle.lk_tree.specs.Level.{is_zero_level}
use Rattle.lk_rulebook.specs.Place.{Place}
use Rattle.lk_store.specs.Contents.{Contents, level_at, tree_at}
use Rattle.lk_step.specs.Told.{IsType}
use Rattle.lk_derive_equal.specs.declared.sorts.Sorted.{Sorted}
use Rattle.lk_derive_equal.specs.Sorts.{IsSorted}

-- the type of e is a proposition
pub record IsProofOf (w : Place) (e : Tree) (c : Contents) (ty : ℕ) (s : Sorted) : Type 0 where
  pub typed : IsType w e (tree_at c ty)
  pub sorted : IsSorted w (tree_at c ty) c s
  pub zero : is_zero_level (level_at c s.level) ≡ true
