-- For each name the numbers of those that follow it.
use Rattle.std.specs.Prelude.{ℕ, zero, suc, ◌≡◌, ◌<◌, List, [], ◌∷◌, ◌++◌, length, slice_index_or}
use Rattle.std.specs.List.{Contains}
use Rattle.lk_tree.specs.Tree.{Name}
use Rattle.lk_store.specs.Contents.{Contents, name_at, IsName}
use Rattle.lk_needs.specs.declared.endings.Ending.{Ending}
use Rattle.lk_needs.specs.Endings.{Follows}

abbrev pub followers_at : List (List ℕ) → ℕ → List ℕ
followers_at ls p = slice_index_or ls p []

-- the lists with one more number in the list of p
abbrev pub with_follower : List (List ℕ) → ℕ → ℕ → List (List ℕ)
with_follower [] p m = []
with_follower (l ∷ ls) zero m = (l ++ m ∷ []) ∷ ls
with_follower (l ∷ ls) (suc p) m = l ∷ with_follower ls p m

-- the list of each name has those of the first i names that follow it; what they follow is stored
pub record AreFollowersTo (c : Contents) (e : Ending) (i : ℕ) (ls : List (List ℕ)) : Type 0 where
  pub one_each : length ls ≡ length c.names
  pub only : (p m : ℕ) → Contains (followers_at ls p) m
      → (m < length c.names) × Follows e (name_at c p) (name_at c m)
  pub all : (p m : ℕ) → m < i → p < length c.names → Follows e (name_at c p) (name_at c m)
      → Contains (followers_at ls p) m
  pub before : (x : Name) (m : ℕ) → m < i → Follows e x (name_at c m) → (p : ℕ) × IsName c p x

abbrev pub AreFollowers : Contents → Ending → List (List ℕ) → Type 0
AreFollowers c e ls = AreFollowersTo c e (length c.names) ls
