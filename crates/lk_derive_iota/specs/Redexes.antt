-- A recursor that is applied to its major premise, by numbers.
use Rattle.std.specs.Prelude.{◌≡◌, ◌<◌, ℕ, suc, List, length, map, take, drop, slice_get, Option}
use Rattle.std.specs.Prelude.{Some}
use Rattle.std.specs.Prelude.{None}
use Rattle.lk_tree.specs.Tree.{Name, Level, Tree, const}
use Rattle.lk_tree.specs.Spine.{apply, head, args}
use Rattle.lk_rulebook.specs.Place.{Place, Entry, Recursor, a_rec}
use Rattle.lk_rulebook.specs.Structures.{RecApp, on_major, before_indices, before_major}
use Rattle.lk_store.specs.Contents.{Contents, name_at, list_at, tree_at, IsTree}
use Rattle.lk_spine.specs.Reading.{AreTrees}
use Rattle.lk_env.specs.StoredLibrary.{StoredLibrary}
use Rattle.lk_env.specs.Entries.{library_entry}
use Rattle.lk_ask.specs.Looks.{Basis, entry_at}
use Rattle.lk_premises.specs.declared.heads.Headed.{Headed}
use Rattle.lk_derive_iota.specs.declared.redexes.Redex.{Redex}
use Rattle.lk_derive_iota.specs.declared.redexes.Shape.{Shape}

-- the numbers stand for the recursor R at its arguments before the major premise, for the major
-- premise, for what comes behind it, and for all of that together
pub record IsRedex {w : Place} (c : Contents) (l : StoredLibrary) (u : Redex) (R : RecApp w)
    (e m : Tree) (rest : List Tree) : Type 0 where
  pub entry_is : library_entry l u.entry ≡ Some R.entry
  pub levels_in : u.levels < length c.lists
  pub levels_are : list_at c u.levels ≡ R.levels
  pub k_is : u.k ≡ R.recursor.k
  pub application_is : IsTree c u.application e
  pub front_is : IsTree c u.front (apply (const R.name R.levels) R.front)
  pub major_is : IsTree c u.major m
  pub reached_is : IsTree c u.reached (on_major R m)
  pub shared_are : AreTrees c u.shared.items (take (before_indices R.recursor) R.front)
  pub behind_are : AreTrees c u.behind.items rest

-- the term e is that
pub record IsRedexOf (w : Place) (c : Contents) (l : StoredLibrary) (u : Redex) (e : Tree)
    : Type 0 where
  pub R : RecApp w
  pub first : Tree
  pub rest : List Tree
  pub redex : IsRedex c l u R e first rest
  pub head_is : head e ≡ const R.name R.levels
  pub front_is : take (before_major R.recursor) (args e) ≡ R.front
  pub first_is : slice_get (args e) (before_major R.recursor) ≡ Some first
  pub rest_is : drop (suc (before_major R.recursor)) (args e) ≡ rest

-- it has no major premise
pub record HasNoMajor (w : Place) (e : Tree) : Type 0 where
  pub name : Name
  pub levels : List Level
  pub entry : Entry
  pub recursor : Recursor
  pub head_is : head e ≡ const name levels
  pub means : w.means name ≡ Some entry
  pub kind_is : entry.kind ≡ a_rec recursor
  pub none : slice_get (args e) (before_major recursor) ≡ None

abbrev pub IsSplit : Place → Contents → StoredLibrary → Tree → Option Redex → Type 0
IsSplit w c l e (Some u) = IsRedexOf w c l u e
IsSplit w c l e None = HasNoMajor w e

-- the last number stands for what the first does, applied to these
pub record IsApplied (c : Contents) (behind : List ℕ) (f v : ℕ) : Type 0 where
  pub is : tree_at c v ≡ apply (tree_at c f) (map (tree_at c) behind)

-- how the arguments of r are split
pub record IsShape (r : Recursor) (s : Shape) : Type 0 where
  pub shared_are : s.shared ≡ before_indices r
  pub before_are : s.before ≡ before_major r
  pub k_is : s.k ≡ r.k

abbrev pub IsShapeIf : Recursor → Option Shape → Type 0
IsShapeIf r (Some s) = IsShape r s
IsShapeIf r None = ⊥

-- the head of t is this constant, which means a recursor of this shape
pub record IsHeadedBy {B : Type 0} (b : Basis B) (c : Contents) (t : Tree) (h : Headed) (s : Shape)
    : Type 0 where
  pub entry : Entry
  pub recursor : Recursor
  pub is : entry_at b h.entry ≡ Some entry
  pub head_is : head t ≡ const (name_at c h.name) (list_at c h.levels)
  pub means : b.place.means (name_at c h.name) ≡ Some entry
  pub kind_is : entry.kind ≡ a_rec recursor
  pub shape : IsShape recursor s
