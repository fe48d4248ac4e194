-- What is made of levels where values are put for parameters.
use Rattle.std.specs.Prelude.{◌≡◌, ℕ, ◌<◌, ◌≤◌, List, length, slice_index_or, map, Option, Result, IfOk, IfSome}
use Rattle.lk_tree.specs.Tree.{Level}
use Rattle.lk_tree.specs.Levels.{put_in_level, level_for}
use Rattle.lk_store.specs.declared.memory.NoMemory.{NoMemory}
use Rattle.lk_store.specs.Contents.{Contents, name_at, level_at, list_at, level_of, IsLevelIn, Extends, IsLevel, IsList}
use Rattle.lk_store.specs.declared.node.LevelNode.{LevelNode}
use Rattle.lk_subst.specs.declared.parts.Met.{Met}

-- what putting values for parameters makes of a level
abbrev pub putting : Contents → List ℕ → List ℕ → Level → Level
putting c params values = put_in_level (map (name_at c) params) (map (level_at c) values)

-- and of a list of them
abbrev pub putting_all : Contents → List ℕ → List ℕ → List Level → List Level
putting_all c params values ls = map (putting c params values) ls

-- the value for the name under a number
abbrev pub for_name : Contents → List ℕ → List ℕ → ℕ → Level
for_name c params values name = level_for (map (name_at c) params) (map (level_at c) values) (name_at c name)

-- d has, as r, what is made in c of a level
abbrev pub IsPut : Contents → List ℕ → List ℕ → ℕ → Contents → ℕ → Type 0
IsPut c params values level d r = IsLevel d r (putting c params values (level_at c level))

-- and of a list of levels
abbrev pub ArePutIn : Contents → List ℕ → List ℕ → ℕ → Contents → ℕ → Type 0
ArePutIn c params values levels d r = IsList d r (putting_all c params values (list_at c levels))

-- the first of them are made
pub record ArePut (f : Level → Level) (c : Contents) (met : List Met) (made : List ℕ) : Type 0 where
  pub few : length made ≤ length met
  pub each : (k : ℕ) (d : Met) → k < length made → IsLevel c (slice_index_or made k 0) (f (level_at c (slice_index_or met k d).level))

-- numbers stand for what they stood for and all else is as it was; a number that is given stands for this level
pub record PutsLevel {S R : Type 0} (contents : S → Contents) (rest : S → R) (old new : S)
    (params values : List ℕ) (level : ℕ) (result : Result (Option ℕ) NoMemory) : Type 0 where
  pub keeps : Extends (contents old) (contents new)
  pub stays : rest new ≡ rest old
  pub ok : IfOk result (λ r. IfSome r (IsPut (contents old) params values level (contents new)))

-- the same of a node, of which a level can be made
pub record PutsNode {S R : Type 0} (contents : S → Contents) (rest : S → R) (old new : S)
    (params values : List ℕ) (node : LevelNode) (result : Result (Option LevelNode) NoMemory) : Type 0 where
  pub keeps : Extends (contents old) (contents new)
  pub stays : rest new ≡ rest old
  pub known : IfOk result (λ r. IfSome r (IsLevelIn (contents new)))
  pub ok : IfOk result (λ r. IfSome r (λ n. level_of (contents new) n ≡ putting (contents old) params values (level_of (contents old) node)))

-- the same of a list of levels
pub record PutsList {S R : Type 0} (contents : S → Contents) (rest : S → R) (old new : S)
    (params values : List ℕ) (levels : ℕ) (result : Result (Option ℕ) NoMemory) : Type 0 where
  pub keeps : Extends (contents old) (contents new)
  pub stays : rest new ≡ rest old
  pub ok : IfOk result (λ r. IfSome r (ArePutIn (contents old) params values levels (contents new)))
