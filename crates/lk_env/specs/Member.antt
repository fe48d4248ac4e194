-- The entries of a unit's members, by number.
use Rattle.std.specs.Prelude.{◌≡◌, ◌+◌, ℕ, Bool, true, false, List, length, take, Option, Some, None, IsSome, slice_get}
use Rattle.std.specs.List.{flat_map}
use Rattle.lk_rulebook.specs.Place.{Entry as PlainEntry}
use Rattle.lk_store.specs.Contents.{Contents, tree_at}
use Rattle.lk_env.specs.declared.entry.Entry.{Entry}
use Rattle.lk_env.specs.declared.entry.Kind.{Kind}
use Rattle.lk_env.specs.declared.entry.Kind.TheVariants as kind
use Rattle.lk_env.specs.declared.unit.Constructor.{Constructor}
use Rattle.lk_env.specs.declared.unit.BlockType.{BlockType}
use Rattle.lk_env.specs.declared.unit.Recursor.{Recursor}
use Rattle.lk_env.specs.declared.unit.Unit.{Unit as StoredUnit}
use Rattle.lk_env.specs.Units.{unit_at, IsUnitIn}
use Rattle.lk_env.specs.Index.{constructor_names}
use Rattle.lk_env.specs.declared.entry.Partial.{Partial}
use Rattle.lk_env.specs.Places.{entry_at, partial_entry_at}
use Rattle.lk_env.specs.Entries.{entry_of, IsEntryIn}

-- the entry is that of the constructor at this place among the constructors of all types
pub record IsConstructorAt (types : List BlockType) (place : ℕ) (e : Entry) : Type 0 where
  pub parent : ℕ
  pub number : ℕ
  pub type : BlockType
  pub constructor : Constructor
  pub kind_is : e.kind ≡ kind.Constructor parent number
  pub type_is : slice_get types parent ≡ Some type
  pub constructor_is : slice_get type.constructors.items number ≡ Some constructor
  pub stated_is : e.stated ≡ constructor.ty
  pub place_is : length (flat_map constructor_names (take parent types)) + number ≡ place

abbrev pub recursor_entry_at : ℕ → ℕ → Recursor → Entry
recursor_entry_at unit i r = record { kind = kind.Recursor i; stated = r.ty; unit = unit; origin = unit }

-- which member it is while its unit is partial
abbrev pub bare_kind : Kind → Kind
bare_kind (kind.Recursor i) = kind.BareRecursor i
bare_kind k = k

abbrev pub is_type_kind : Kind → Bool
is_type_kind (kind.Type i) = true
is_type_kind k = false

-- the entry by numbers is that of a unit's entry o
pub record Stands (c : Contents) (u : StoredUnit) (o : Option PlainEntry) (e : Entry) : Type 0 where
  pub given : IsSome o
  pub member : o ≡ entry_of c (unit_at c u) e.kind (tree_at c e.stated)
  pub known : IsUnitIn c u → IsEntryIn c e

-- it is, if there is one
abbrev pub StandsIfAny : Contents → StoredUnit → Option PlainEntry → Option Entry → Type 0
StandsIfAny c u o None = o ≡ None
StandsIfAny c u o (Some e) = Stands c u o e

-- the entry is that of member j
abbrev pub IsMember : Contents → StoredUnit → ℕ → Entry → Type 0
IsMember c u j e = Stands c u (entry_at (unit_at c u) j) e

-- the entry of member j, if there is one
abbrev pub IsMemberIfAny : Contents → StoredUnit → ℕ → Option Entry → Type 0
IsMemberIfAny c u j o = StandsIfAny c u (entry_at (unit_at c u) j) o

-- the entry of member j as it is partial, if it is
abbrev pub IsPartialIfAny : Contents → StoredUnit → Partial → ℕ → Option Entry → Type 0
IsPartialIfAny c u p j o = StandsIfAny c u (partial_entry_at (unit_at c u) p j) o
