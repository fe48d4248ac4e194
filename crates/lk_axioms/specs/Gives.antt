-- The axioms that names and trees lead to at a unit, and what is kept of them.
use Rattle.std.specs.Prelude.{ℕ, ◌≡◌, ◌<◌, ◌≤◌, true, List, [], ◌∷◌, take, length, min, Some, slice_index_or}
use Rattle.std.specs.List.{Contains}
use Rattle.lk_tree.specs.Tree.{Name, Tree}
use Rattle.lk_tree.specs.Mentions.{mentions}
use Rattle.lk_rulebook.specs.Units.{Library, Found, first_giving}
use Rattle.lk_reach.specs.Axioms.{IsAxiomOf, IsListOf, IsAxiomList}
use Rattle.lk_store.specs.Contents.{Contents, tree_at}
use Rattle.lk_axioms.specs.declared.finding.Finding.{Finding}
use Rattle.lk_axioms.specs.Lists.{set_at, IsUnited}

-- before unit n a unit is the first to give the name, and k is one of its axioms
pub record NameGives (us : Library) (c : Name) (n k : ℕ) : Type 0 where
  pub found : Found
  pub given : first_giving 0 (take n us) c ≡ Some found
  pub is_axiom : IsAxiomOf us found.unit k

-- a name in the tree gives k
pub record TreeGives (us : Library) (e : Tree) (n k : ℕ) : Type 0 where
  pub name : Name
  pub has : mentions (name ∷ []) e ≡ true
  pub gives : NameGives us name n k

-- one of the trees under these numbers gives k
pub record TreesGive (c : Contents) (us : Library) (es : List ℕ) (n k : ℕ) : Type 0 where
  pub tree : ℕ
  pub is_one : Contains es tree
  pub gives : TreeGives us (tree_at c tree) n k

-- from unit n on, at each unit below that of the finding, its set is that of P there
pub record IsFinding (P : ℕ → ℕ → Type 0) (n : ℕ) (sets : List (List ℕ)) (f : Finding) : Type 0 where
  pub set_in : f.set < length sets
  pub holds : (m : ℕ) → n ≤ m → m < f.below → IsListOf (P m) (set_at sets f.set)

-- the finding of two together
pub record IsJoined (old new : List (List ℕ)) (a b r : Finding) : Type 0 where
  pub united : IsUnited old new a.set b.set r.set
  pub below : r.below ≡ min a.below b.below

-- nothing was found yet
abbrev pub nowhere : Finding
nowhere = record { set = 0; below = 0 }

abbrev pub cell_at : List Finding → ℕ → Finding
cell_at cells e = slice_index_or cells e nowhere

-- what was found in a tree holds at unit n
abbrev pub IsKnown : ℕ → List Finding → ℕ → Type 0
IsKnown n cells e = n < (cell_at cells e).below

abbrev pub AreKnown : ℕ → List Finding → List ℕ → Type 0
AreKnown n cells [] = Unit {0}
AreKnown n cells (e ∷ es) = IsKnown n cells e × AreKnown n cells es

-- the set of a unit
pub record IsSetOfUnit (us : Library) (sets : List (List ℕ)) (m set : ℕ) : Type 0 where
  pub set_in : set < length sets
  pub is_list : IsAxiomList us m (set_at sets set)
