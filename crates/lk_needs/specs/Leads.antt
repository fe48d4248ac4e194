-- What a thing leads to.
use Rattle.std.specs.Prelude.{ℕ, suc, ◌≡◌, ◌+◌, ◌<◌, ◌⊎◌, true, List, [], ◌∷◌}
use Rattle.std.specs.Prelude.{length, take, Some, slice_get}
use Rattle.std.specs.List.{Contains}
use Rattle.lk_tree.specs.Tree.{Name}
use Rattle.lk_tree.specs.Mentions.{mentions}
use Rattle.lk_rulebook.specs.Units.{LibraryUnit, Library, Found, first_giving}
use Rattle.lk_inductive.specs.Restore.{rec_numbered}
use Rattle.lk_uses.specs.Closure.{Uses}
use Rattle.lk_store.specs.Contents.{Contents, name_at, tree_at, IsName}
use Rattle.lk_store.specs.Store.{contents_of}
use Rattle.lk_seek.specs.Costs.{tree_cost}
use Rattle.lk_env.specs.StoredLibrary.{StoredLibrary}
use Rattle.lk_env.specs.Units.{library_of}
use Rattle.lk_needs.specs.declared.endings.Ending.TheVariants as ending
use Rattle.lk_needs.specs.declared.opening.Recursors.{Recursors}
use Rattle.lk_needs.specs.declared.thing.Thing.{Thing}
use Rattle.lk_needs.specs.declared.thing.Thing.TheVariants.{Unit as a_unit, Name as a_name}
use Rattle.lk_needs.specs.declared.thing.Thing.TheVariants.{Tree as a_tree, Numbered}
use Rattle.lk_needs.specs.declared.needs.Needs.{Needs}
use Rattle.lk_needs.specs.Followers.{AreFollowers}
use Rattle.lk_needs.specs.Marks.{Room, IsThing, Enters}

abbrev pub contents_in : StoredLibrary → Contents
contents_in l = contents_of l.tables

-- how many things a library has of each kind
abbrev pub room_at : StoredLibrary → Room
room_at l = record {
  units = length l.units;
  names = length (contents_in l).names;
  trees = length (contents_in l).trees;
  numbered = length (contents_in l).names;
}

abbrev pub IsOfLibrary : StoredLibrary → Thing → Type 0
IsOfLibrary l t = IsThing (room_at l) t

-- both kinds of recursors' names are listed
pub record AreRecursors (c : Contents) (r : Recursors) : Type 0 where
  pub plain : AreFollowers c ending.Plain r.plain
  pub numbered : AreFollowers c ending.Numbered r.numbered

-- a name, or a tree of the store or a list of recursors that has names
abbrev pub IsNaming : Contents → Thing → Type 0
IsNaming c (a_unit u) = ⊥
IsNaming c (a_name n) = n < length c.names
IsNaming c (a_tree e) = e < length c.trees
IsNaming c (Numbered n) = n < length c.names

abbrev pub AreNaming : Contents → List Thing → Type 0
AreNaming c [] = Unit {0}
AreNaming c (t ∷ ts) = IsNaming c t × AreNaming c ts

-- it has the name x
abbrev pub Has : Contents → Name → Thing → Type 0
Has c x (a_unit u) = ⊥
Has c x (a_name n) = name_at c n ≡ x
Has c x (a_tree e) = mentions (x ∷ []) (tree_at c e) ≡ true
Has c x (Numbered n) = (k : ℕ) × (rec_numbered (name_at c n) (suc k) ≡ x)

-- one of them has it
abbrev pub AnyHas : Contents → Name → List Thing → Type 0
AnyHas c x [] = ⊥
AnyHas c x (t ∷ ts) = Has c x t ⊎ AnyHas c x ts

-- a number of the store stands for the name
abbrev pub IsStored : Contents → Name → Type 0
IsStored c x = (n : ℕ) × IsName c n x

-- the things have just the names with the property, of those that are stored
pub record AreNamed (c : Contents) (P : Name → Type 0) (ts : List Thing) : Type 0 where
  pub naming : AreNaming c ts
  pub only : (x : Name) → AnyHas c x ts → P x
  pub all : (x : Name) → IsStored c x → P x → AnyHas c x ts

-- names stand below lists of recursors, and these below trees, which stand above their parts
abbrev pub rank : Contents → Thing → ℕ
rank c (a_unit u) = 0
rank c (a_name n) = 0
rank c (a_tree e) = 2 + tree_cost (tree_at c e)
rank c (Numbered n) = 1

abbrev pub AreBelow : Contents → ℕ → List Thing → Type 0
AreBelow c k [] = Unit {0}
AreBelow c k (t ∷ ts) = (rank c t < k) × AreBelow c k ts

-- the names of a thing are those of things below it
pub record IsTaken (c : Contents) (t : Thing) (ts : List Thing) : Type 0 where
  pub named : AreNamed c (λ x. Has c x t) ts
  pub below : AreBelow c (rank c t) ts

-- unit u uses the name
pub record UnitUses (us : Library) (u : ℕ) (x : Name) : Type 0 where
  pub unit : LibraryUnit
  pub stands : slice_get us u ≡ Some unit
  pub uses : Uses x unit

-- it is the unit that gives the name at unit n
pub record IsGiver (us : Library) (n : ℕ) (x : Name) (t : Thing) : Type 0 where
  pub found : Found
  pub given : first_giving 0 (take n us) x ≡ Some found
  pub is_unit : t ≡ a_unit found.unit

-- there is just the unit that gives the name
pub record AreGivers (us : Library) (n : ℕ) (x : Name) (ts : List Thing) : Type 0 where
  pub only : (t : Thing) → Contains ts t → IsGiver us n x t
  pub all : (t : Thing) → IsGiver us n x t → Contains ts t

-- a thing leads to these, where names are looked up at unit n
abbrev pub Leads : StoredLibrary → ℕ → Thing → List Thing → Type 0
Leads l n (a_unit u) ts = AreNamed (contents_in l) (UnitUses (library_of l) u) ts
Leads l n (a_name m) ts = AreGivers (library_of l) n (name_at (contents_in l) m) ts
Leads l n (a_tree e) ts = IsTaken (contents_in l) (a_tree e) ts
Leads l n (Numbered m) ts = IsTaken (contents_in l) (Numbered m) ts

-- what the thing leads to is marked
pub record Opens (l : StoredLibrary) (n : ℕ) (t : Thing) (old new : Needs) : Type 0 where
  pub things : List Thing
  pub leads : Leads l n t things
  pub enters : Enters old new things
