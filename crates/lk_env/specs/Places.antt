-- Where a library gives a name: the first unit that gives it, and which of its members. What names
-- mean at a unit.
use Rattle.std.specs.Prelude.{ℕ, suc, [], ◌∷◌, ◌++◌, take, Option, Some, None, option_map, option_and_then, slice_get, nat_eq, nat_lt, if◌then◌else◌}
use Rattle.lk_tree.specs.Tree.{Name, name_discrete}
use Rattle.lk_rulebook.specs.Place.{Entry, Place}
use Rattle.lk_rulebook.specs.Units.{Members, LibraryUnit, of_decl, of_block, members_of, partial_types, partial_members, Library, Found, at_unit, first_giving, place_of}
use Rattle.lk_rulebook.specs.Scan.{is_none}
use Rattle.lk_env.specs.declared.entry.Partial.{Partial}
use Rattle.lk_env.specs.declared.entry.Partial.TheVariants.{Nothing, Types, Members as AllMembers}
use Rattle.lk_env.specs.declared.entry.Site.{Site}
use Rattle.lk_env.specs.Units.{library_of}
use Rattle.lk_env.specs.StoredLibrary.{StoredLibrary}

-- the first member of the name, where the first of all has number i
abbrev pub member_in : ℕ → Members → Name → Option ℕ
member_in i [] c = None
member_in i (m ∷ ms) c =
    elim (name_discrete m.0 c) [ yes e ↦ Some i | no f ↦ member_in (suc i) ms c ]

-- the first if it is there, else the second
abbrev pub first_place : Option (ℕ × ℕ) → Option (ℕ × ℕ) → Option (ℕ × ℕ)
first_place (Some p) o = Some p
first_place None o = o

-- a member of unit i
abbrev pub at_member : ℕ → Option ℕ → Option (ℕ × ℕ)
at_member i None = None
at_member i (Some j) = Some (i, j)

-- the first unit that gives the name and the member that does, where the first of all units has
-- number i
abbrev pub position_in : ℕ → Library → Name → Option (ℕ × ℕ)
position_in i [] c = None
position_in i (u ∷ us) c =
    first_place (at_member i (member_in 0 (members_of u) c)) (position_in (suc i) us c)

-- the entry of a unit's member
abbrev pub entry_at : LibraryUnit → ℕ → Option Entry
entry_at u j = option_map (λ m. m.1) (slice_get (members_of u) j)

-- what stands at a place
abbrev pub found_at : Library → ℕ × ℕ → Option Found
found_at us p = option_and_then (λ u. at_unit p.0 u (entry_at u p.1)) (slice_get us p.0)

-- the place, where its unit is one of the first n
abbrev pub position_below : ℕ → Option (ℕ × ℕ) → Option (ℕ × ℕ)
position_below n None = None
position_below n (Some p) = if nat_lt p.0 n then Some p else None

-- what is partial of a unit
abbrev pub partial_of : LibraryUnit → Partial → Members
partial_of u Nothing = []
partial_of (of_decl d) Types = []
partial_of (of_decl d) AllMembers = []
partial_of (of_block b rs) Types = partial_types b
partial_of (of_block b rs) AllMembers = partial_types b ++ partial_members b rs

-- the entry of a unit's member as it is partial
abbrev pub partial_entry_at : LibraryUnit → Partial → ℕ → Option Entry
partial_entry_at u p j = option_map (λ m. m.1) (slice_get (partial_of u p) j)

-- the same of the unit at a site
abbrev pub partial_entry_in : Library → Site → ℕ → Option Entry
partial_entry_in us s j =
    option_and_then (λ u. partial_entry_at u s.partial j) (slice_get us s.unit)

-- the member, where the place is in unit n
abbrev pub own_member : ℕ → Option (ℕ × ℕ) → Option ℕ
own_member n None = None
own_member n (Some p) = if nat_eq p.0 n then Some p.1 else None

-- those of the names that no unit before number n gives
abbrev pub new_among : Library → ℕ → Members → Members
new_among us n [] = []
new_among us n (m ∷ ms) =
    if is_none (first_giving 0 (take n us) m.0) then m ∷ new_among us n ms else new_among us n ms

-- what is partial at a site
abbrev pub partial_at : Library → Site → Members
partial_at us s = elim (slice_get us s.unit) [
  | None ↦ []
  | Some u ↦ new_among us s.unit (partial_of u s.partial)
]

-- the place of a site in the library of a store's tables and units; where names of a unit are not
-- new, they are not partial
abbrev pub place_at : StoredLibrary → Site → Place
place_at l s = place_of (library_of l) s.unit (partial_at (library_of l) s)

-- the types of what is partial of a unit, and the rest
abbrev pub partial_first : LibraryUnit → Partial → Members
partial_first u Nothing = []
partial_first (of_decl d) Types = []
partial_first (of_decl d) AllMembers = []
partial_first (of_block b rs) Types = partial_types b
partial_first (of_block b rs) AllMembers = partial_types b

abbrev pub partial_last : LibraryUnit → Partial → Members
partial_last u Nothing = []
partial_last u Types = []
partial_last (of_decl d) AllMembers = []
partial_last (of_block b rs) AllMembers = partial_members b rs

-- what is partial of a unit, and auxiliary types behind its types
abbrev pub partial_beside : LibraryUnit → Partial → Members → Members
partial_beside u p aux = (partial_first u p ++ aux) ++ partial_last u p

-- the same of the unit at a site, where names of the unit that are not new are not partial
abbrev pub first_at : Library → Site → Members
first_at us s = elim (slice_get us s.unit) [
  | None ↦ []
  | Some u ↦ new_among us s.unit (partial_first u s.partial)
]

abbrev pub last_at : Library → Site → Members
last_at us s = elim (slice_get us s.unit) [
  | None ↦ []
  | Some u ↦ new_among us s.unit (partial_last u s.partial)
]

abbrev pub beside_at : Library → Site → Members → Members
beside_at us s aux = (first_at us s ++ aux) ++ last_at us s

-- the place of a site, with auxiliary types
abbrev pub place_beside : StoredLibrary → Site → Members → Place
place_beside l s aux = place_of (library_of l) s.unit (beside_at (library_of l) s aux)
