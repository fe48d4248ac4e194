-- Two applications, taken apart in pairs.
use Rattle.std.specs.Prelude.{◌≡◌, ◌<◌, ℕ, true, false, nat_eq, List, ◌++◌, length, map, reverse, All, Option, Some, None}
use Rattle.lk_tree.specs.Tree.{Tree}
use Rattle.lk_tree.specs.Spine.{head, args}
use Rattle.lk_store.specs.Contents.{Contents, tree_at}
use Rattle.lk_ask.specs.declared.sheet.Pair.{Pair}
use Rattle.lk_ask.specs.Lines.{lefts, rights}
use Rattle.lk_ask.specs.Sheets.{map_pair, IsKnownPair}
use Rattle.lk_lazy.specs.declared.spines.Paired.{Paired}

-- where the walk down two spines stands: the arguments that it left behind are on the stack
pub record IsSpineWalk (c : Contents) (a b left right : ℕ) (pairs : List (Pair ℕ)) : Type 0 where
  pub left_in : left < length c.trees
  pub right_in : right < length c.trees
  pub pairs_in : All (IsKnownPair (length c.trees)) pairs
  pub left_head : head (tree_at c left) ≡ head (tree_at c a)
  pub right_head : head (tree_at c right) ≡ head (tree_at c b)
  pub left_args : args (tree_at c left) ++ lefts (map (map_pair (tree_at c)) pairs) ≡ args (tree_at c a)
  pub right_args : args (tree_at c right) ++ rights (map (map_pair (tree_at c)) pairs) ≡ args (tree_at c b)

-- the heads of a and b, and the pairs of their arguments
pub record IsPaired (c : Contents) (a b : ℕ) (p : Paired) : Type 0 where
  pub left_in : p.left < length c.trees
  pub right_in : p.right < length c.trees
  pub pairs_in : All (IsKnownPair (length c.trees)) p.pairs.items
  pub left_head : head (tree_at c a) ≡ tree_at c p.left
  pub right_head : head (tree_at c b) ≡ tree_at c p.right
  pub left_args : args (tree_at c a) ≡ lefts (map (map_pair (tree_at c)) p.pairs.items)
  pub right_args : args (tree_at c b) ≡ rights (map (map_pair (tree_at c)) p.pairs.items)
  pub as_many : nat_eq (length (args (tree_at c a))) (length (args (tree_at c b))) ≡ true

-- there are none where the one has more arguments than the other
abbrev pub IsPairedIf : Contents → ℕ → ℕ → Option Paired → Type 0
IsPairedIf c a b None = nat_eq (length (args (tree_at c a))) (length (args (tree_at c b))) ≡ false
IsPairedIf c a b (Some p) = IsPaired c a b p
