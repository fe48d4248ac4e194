-- Trees at levels that were made before.
use Rattle.std.specs.Prelude.{◌≡◌, ℕ, ◌<◌, List, length, map, All, Option, IfOk, Result}
use Rattle.lk_tree.specs.Levels.{put_levels}
use Rattle.lk_store.specs.Hashes.{hash_of_pair}
use Rattle.lk_store.specs.declared.memory.NoMemory.{NoMemory}
use Rattle.lk_store.specs.declared.tables.Tables.{Tables}
use Rattle.lk_store.specs.Contents.{Contents, name_at, list_at, tree_at, Extends, IsTree}
use Rattle.lk_store.specs.Store.{contents_of}
use Rattle.lk_ask.specs.declared.instances.TreeAt.{TreeAt}
use Rattle.lk_ask.specs.declared.instances.Instance.{Instance}
use Rattle.lk_ask.specs.declared.instances.Instances.{Instances}
use Rattle.lk_ask.specs.Constants.{IsAtLevels}

abbrev pub hash_of_tree_at : ℕ → TreeAt → ℕ
hash_of_tree_at seed t = hash_of_pair seed t.e t.levels

-- the number stands for the tree with its levels, as many, in place of the parameters
pub record IsInstance (c : Contents) (params : List ℕ) (tree : TreeAt) (made : ℕ) : Type 0 where
  pub params_in : All (λ p. p < length c.names) params
  pub levels_in : tree.levels < length c.lists
  pub e_in : tree.e < length c.trees
  pub as_many : length (list_at c tree.levels) ≡ length params
  pub is : IsTree c made
      (put_levels (map (name_at c) params) (list_at c tree.levels) (tree_at c tree.e))

-- each row says what was made
abbrev pub AreInstances : Contents → List Instance → Type 0
AreInstances c rows = All (λ (i : Instance). IsInstance c i.params.items i.tree i.made) rows

-- a store has what these tables have, and what was made at levels stands in it
pub record IsLookout (library : Tables) (c : Contents) (instances : Instances) : Type 0 where
  pub over : Extends (contents_of library) c
  pub made : AreInstances c instances.table

-- numbers stand for what they stood for; the number that is given stands for the tree at its levels
pub record PutsAtLevels {S R : Type 0} (contents : S → Contents) (rest : S → R) (old new : S)
    (params : List ℕ) (tree : TreeAt) (result : Result (Option ℕ) NoMemory) : Type 0 where
  pub keeps : Extends (contents old) (contents new)
  pub stays : rest new ≡ rest old
  pub ok : IfOk result (IsAtLevels (contents new) (map (name_at (contents old)) params)
      (list_at (contents old) tree.levels) (tree_at (contents old) tree.e))
