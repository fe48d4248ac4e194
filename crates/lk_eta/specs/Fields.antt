-- The projections of a tree and the fields of a constructor, in pairs.
use Rattle.std.specs.Prelude.{◌≡◌, ℕ, List, length, map, All}
use Rattle.lk_tree.specs.Tree.{Name, Tree}
use Rattle.lk_rulebook.specs.Structures.{projections}
use Rattle.lk_store.specs.Contents.{Contents, tree_at}
use Rattle.lk_ask.specs.declared.sheet.Pair.{Pair}
use Rattle.lk_ask.specs.Lines.{lefts, rights}
use Rattle.lk_ask.specs.Sheets.{map_pair, IsKnownPair}

-- the projections of a, of the type J, beside these fields
pub record ArePairs (c : Contents) (J : Name) (a : Tree) (xs : List Tree) (pairs : List (Pair ℕ)) : Type 0 where
  pub pairs_in : All (IsKnownPair (length c.trees)) pairs
  pub lefts_are : lefts (map (map_pair (tree_at c)) pairs) ≡ projections J a 0 (length xs)
  pub rights_are : rights (map (map_pair (tree_at c)) pairs) ≡ xs
