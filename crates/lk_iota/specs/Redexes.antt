-- A recursor that is applied to its major premise: what it is at a place, and by numbers.
use Rattle.std.specs.Prelude.{◌≡◌, ◌<◌, ◌+◌, ℕ, suc, List, length, map, take, drop, All, slice_get}
use Rattle.std.specs.Prelude.{Option, Some, None}
use Rattle.lk_tree.specs.Tree.{Level, Tree, const}
use Rattle.lk_tree.specs.Spine.{head, args}
use Rattle.lk_rulebook.specs.Place.{Place, Entry, Kind, Recursor, a_rec}
use Rattle.lk_rulebook.specs.Structures.{before_major}
use Rattle.lk_store.specs.Contents.{Contents, list_at, tree_at}
use Rattle.lk_env.specs.StoredLibrary.{StoredLibrary}
use Rattle.lk_env.specs.Entries.{library_entry}
use Rattle.lk_ask.specs.Looks.{Sight}
use Rattle.lk_iota.specs.declared.major.Redex.{Redex}

-- R ls front major rest, where R means this entry of a recursor
pub record PlainRedex : Type 0 where
  pub levels : List Level
  pub entry : Entry
  pub recursor : Recursor
  pub front : List Tree
  pub major : Tree
  pub rest : List Tree

abbrev pub at_major : List Level → Entry → Recursor → List Tree → Option Tree → List Tree
    → Option PlainRedex
at_major ls g r front None rest = None
at_major ls g r front (Some m) rest =
    Some (record { levels = ls; entry = g; recursor = r; front = front; major = m; rest = rest })

-- these arguments are split at the major premise, where there is one
abbrev pub split_at : List Level → Entry → Recursor → List Tree → Option PlainRedex
split_at ls g r xs = at_major ls g r (take (before_major r) xs) (slice_get xs (before_major r))
    (drop (suc (before_major r)) xs)

abbrev pub redex_by : List Level → List Tree → Entry → Kind → Option PlainRedex
redex_by ls xs g (a_rec r) = split_at ls g r xs
redex_by ls xs g _ = None

abbrev pub redex_of : Place → Tree → List Tree → Option PlainRedex
redex_of w (const c ls) xs = elim (w.means c) [ Some g ↦ redex_by ls xs g g.kind | None ↦ None ]
redex_of w _ xs = None

-- the recursor applied to its major premise that e is at a place, where it is one
abbrev pub redex_at : Place → Tree → Option PlainRedex
redex_at w e = redex_of w (head e) (args e)

-- its numbers are those of the store, and one of its arguments is the major premise
pub record IsKnownRedex (c : Contents) (u : Redex) : Type 0 where
  pub levels_in : u.levels < length c.lists
  pub arguments_in : All (λ x. x < length c.trees) u.arguments.items
  pub before_in : u.before < length u.arguments.items
  pub shared_in : u.shared < suc u.before
  pub major_in : u.major < length c.trees

-- the numbers stand for it
pub record IsRedex (c : Contents) (l : StoredLibrary) (u : Redex) (p : PlainRedex)
    : Type 0 where
  pub levels_are : list_at c u.levels ≡ p.levels
  pub entry_is : library_entry l u.entry ≡ Some p.entry
  pub kind_is : p.entry.kind ≡ a_rec p.recursor
  pub shared_is : u.shared ≡ p.recursor.parameters + p.recursor.motives + p.recursor.minors
  pub k_is : u.k ≡ p.recursor.k
  pub front_is : map (tree_at c) (take u.before u.arguments.items) ≡ p.front
  pub major_is : tree_at c u.major ≡ p.major
  pub rest_is : map (tree_at c) (drop (suc u.before) u.arguments.items) ≡ p.rest

-- the one is there exactly where the other is
abbrev pub IsRedexIf : Contents → StoredLibrary → Option Redex → Option PlainRedex
    → Type 0
IsRedexIf c l None None = Unit {0}
IsRedexIf c l (Some u) (Some p) = IsRedex c l u p
IsRedexIf c l (Some u) None = ⊥
IsRedexIf c l None (Some p) = ⊥

-- the numbers stand for it over the library of whoever looks names up
abbrev pub StandsFor : {S R B : Type 0} → (S → Contents) → (S → R) → (R → Sight B) → S → Redex
    → PlainRedex → Type 0
StandsFor contents rest sight s u p = IsRedex (contents s) (sight (rest s)).basis.library u p

-- the term of this number is it, at the place from where names are looked up
abbrev pub IsAt : {S R B : Type 0} → (S → Contents) → (S → R) → (R → Sight B) → S → ℕ → PlainRedex
    → Type 0
IsAt contents rest sight s e p =
    redex_at (sight (rest s)).basis.place (tree_at (contents s) e) ≡ Some p
