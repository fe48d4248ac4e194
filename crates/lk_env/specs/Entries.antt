-- What an entry by numbers stands for, and what the answer to a look-up says.
use Rattle.std.specs.Prelude.{◌≡◌, ◌<◌, ℕ, List, [], length, map, IfSome, Option, Some, None, Result, Ok, Err, IsSome, option_map, option_and_then, slice_get}
use Rattle.lk_tree.specs.Tree.{Name, Tree}
use Rattle.lk_tree.specs.declared.rule.Rule.{Rule}
use Rattle.lk_tree.specs.declared.rule.Rule.TheVariants.{UnknownConstant}
use Rattle.lk_rulebook.specs.Place.{Place, Ctor, BlockType, BlockRecursor, a_type, a_ctor, a_rec}
use Rattle.lk_rulebook.specs.Place.{Entry as PlainEntry}
use Rattle.lk_rulebook.specs.Units.{LibraryUnit, of_decl, of_block, kind_of}
use Rattle.lk_store.specs.Contents.{Contents, name_at, tree_at}
use Rattle.lk_store.specs.Store.{contents_of}
use Rattle.lk_env.specs.StoredLibrary.{StoredLibrary}
use Rattle.lk_env.specs.declared.entry.Kind.{Kind}
use Rattle.lk_env.specs.declared.entry.Kind.TheVariants as kind
use Rattle.lk_env.specs.declared.entry.Entry.{Entry}
use Rattle.lk_env.specs.declared.unit.Unit.{Unit as StoredUnit}
use Rattle.lk_env.specs.Units.{body_at, unit_at, library_at, IsBodyIn}

-- the entry of the member that a kind says of a unit, with T as its type
abbrev pub entry_of : Contents → LibraryUnit → Kind → Tree → Option PlainEntry
entry_of c (of_decl d) (kind.Declared b) T =
    Some (record { levels = d.levels; type = T; kind = kind_of (body_at c b) })
entry_of c (of_decl d) _ T = None
entry_of c (of_block b rs) (kind.Declared _) T = None
entry_of c (of_block b rs) (kind.Type i) T = option_map
    (λ (t : BlockType). record { levels = t.levels; type = T; kind = a_type b t })
    (slice_get b.types i)
entry_of c (of_block b rs) (kind.Constructor i j) T =
    option_and_then (λ (t : BlockType). option_map
    (λ (k : Ctor). record { levels = k.levels; type = T; kind = a_ctor b t k })
    (slice_get t.ctors j)) (slice_get b.types i)
entry_of c (of_block b rs) (kind.Recursor i) T = option_map
    (λ (r : BlockRecursor). record { levels = r.levels; type = T; kind = a_rec r.recursor })
    (slice_get rs i)
entry_of c (of_block b rs) (kind.BareRecursor i) T = option_map
    (λ (r : BlockRecursor). record {
      levels = r.levels;
      type = T;
      kind = a_rec (record r.recursor { rules = [] });
    }) (slice_get rs i)

-- what an entry stands for
abbrev pub plain_entry : Contents → List StoredUnit → Entry → Option PlainEntry
plain_entry c us e = option_and_then (λ u. entry_of c u e.kind (tree_at c e.stated))
    (slice_get (library_at c us) e.unit)

-- the same of a library
abbrev pub library_entry : StoredLibrary → Entry → Option PlainEntry
library_entry l e = plain_entry (contents_of l.tables) l.units e

-- the trees of an entry are numbers of the store
abbrev pub IsKindIn : Contents → Kind → Type 0
IsKindIn c (kind.Declared b) = IsBodyIn c b
IsKindIn c _ = Unit {0}

pub record IsEntryIn (c : Contents) (e : Entry) : Type 0 where
  pub kind_in : IsKindIn c e.kind
  pub stated_in : e.stated < length c.trees

-- the answer of an entry whose unit has this flaw, if any
abbrev pub judged : Option Rule → Entry → Result Entry Rule
judged None e = Ok e
judged (Some r) e = Err r

-- why a name means nothing, by the flaw of what gives it, if anything does
abbrev pub why : Option Rule → Rule
why None = UnknownConstant
why (Some r) = r

-- the name means nothing at the place, and this is why
pub record MeansNothing (w : Place) (x : Name) (r : Rule) : Type 0 where
  pub means : w.means x ≡ None
  pub rule : r ≡ why (w.flaw x)
  pub unknown : r ≡ UnknownConstant → w.flaw x ≡ None

-- the name means this entry at the place
pub record IsMeaning (c : Contents) (us : List StoredUnit) (w : Place) (x : Name)
    (e : Entry) : Type 0 where
  pub given : IsSome (w.means x)
  pub means : w.means x ≡ plain_entry c us e
  pub origin : w.origin x ≡ e.origin

-- the answer to a look-up of the name at the place
abbrev pub IsAnswer : Contents → List StoredUnit → Place → Name → Result Entry Rule → Type 0
IsAnswer c us w x (Ok e) = IsMeaning c us w x e
IsAnswer c us w x (Err r) = MeansNothing w x r

-- the level parameters of the member that a kind says of a unit
abbrev pub HasLevels : Contents → StoredUnit → Kind → Tree → List ℕ → Type 0
HasLevels c u k T names =
    IfSome (entry_of c (unit_at c u) k T) (λ y. y.levels ≡ map (name_at c) names)
