-- The search for all that a unit needs.
use Rattle.std.specs.Prelude.{ℕ, ◌≡◌, ◌⊎◌, List, [], take, Some}
use Rattle.std.specs.List.{Contains}
use Rattle.lk_tree.specs.Tree.{Name}
use Rattle.lk_rulebook.specs.Units.{Library, Found, first_giving}
use Rattle.lk_uses.specs.Closure.{IsInClosure, IsIn as IsOneOf, builtins}
use Rattle.lk_store.specs.Contents.{Contents}
use Rattle.lk_env.specs.StoredLibrary.{StoredLibrary}
use Rattle.lk_env.specs.Units.{library_of}
use Rattle.lk_needs.specs.declared.thing.Thing.{Thing}
use Rattle.lk_needs.specs.declared.thing.Thing.TheVariants.{Unit as a_unit}
use Rattle.lk_needs.specs.declared.needs.Needs.{Needs}
use Rattle.lk_needs.specs.Marks.{room_of, IsMarked, Waits}
use Rattle.lk_needs.specs.Leads.{contents_in, room_at, IsOfLibrary, IsStored, Has, Leads}

-- the unit that gives the name at unit n, if any, is in the closure
pub record GivesOnly (us : Library) (n : ℕ) (x : Name) : Type 0 where
  pub gives : (f : Found) → first_giving 0 (take n us) x ≡ Some f → IsInClosure us n f.unit

-- a unit is in the closure, or what gives the names of the thing is
abbrev pub IsNeeded : StoredLibrary → ℕ → Thing → Type 0
IsNeeded l n (a_unit u) = IsInClosure (library_of l) n u
IsNeeded l n t = (x : Name) → Has (contents_in l) x t → GivesOnly (library_of l) n x

pub record IsKnown (l : StoredLibrary) (n : ℕ) (t : Thing) : Type 0 where
  pub known : IsOfLibrary l t
  pub needed : IsNeeded l n t

-- it was looked through: all that it leads to is marked
pub record IsDone (l : StoredLibrary) (n : ℕ) (s : Needs) (t : Thing) : Type 0 where
  pub things : List Thing
  pub leads : Leads l n t things
  pub marked : (q : Thing) → Contains things q → IsMarked s q

-- a thing that is marked has the name
pub record IsMet (c : Contents) (s : Needs) (x : Name) : Type 0 where
  pub thing : Thing
  pub has : Has c x thing
  pub marked : IsMarked s thing

-- all that is marked is needed, and waits or is done
pub record IsUnderWay (l : StoredLibrary) (n : ℕ) (s : Needs) : Type 0 where
  pub room : room_of s ≡ room_at l
  pub known : (t : Thing) → IsMarked s t → IsKnown l n t
  pub done : (t : Thing) → IsMarked s t → Waits s t ⊎ IsDone l n s t
  pub waiting : (t : Thing) → Waits s t → IsMarked s t
  pub own : IsMarked s (a_unit n)
  pub builtin : (x : Name) → IsOneOf x builtins → IsStored (contents_in l) x
      → IsMet (contents_in l) s x

-- nothing waits
pub record IsSearched (l : StoredLibrary) (n : ℕ) (s : Needs) : Type 0 where
  pub under_way : IsUnderWay l n s
  pub none : s.waiting.items ≡ []
