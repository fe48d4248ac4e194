-- The entries of a block's members while it is partial.
use Rattle.std.proofs.Common.{◌≡◌, ℕ, zero, suc, Bool, true, false, List, [], ◌∷◌, ◌++◌, map, Option, Some, None, refl, ap, sym, ◌∙◌}
use Rattle.std.specs.Prelude.{IsSome, option_map, option_and_then, slice_get, if◌then◌else◌}
use Rattle.std.proofs.lemmas.List.{map-append}
use Rattle.std.proofs.lemmas.Option.{slice_get-map}
use Rattle.lk_tree.specs.Tree.{Name, Tree}
use Rattle.lk_rulebook.specs.Place.{Ctor, BlockRecursor, a_type, a_ctor, a_rec}
use Rattle.lk_rulebook.specs.Place.{Kind as PlainKind, BlockType as PlainType, Block as PlainBlock, Entry as PlainEntry}
use Rattle.lk_rulebook.specs.Units.{Members, of_block, members_of, type_entries, ctor_entries, all_ctor_entries, rec_members, rec_entries, partial_types, partial_members}
use Rattle.lk_store.specs.Contents.{Contents, tree_at}
use Rattle.lk_env.specs.declared.entry.Entry.{Entry}
use Rattle.lk_env.specs.declared.entry.Kind.{Kind}
use Rattle.lk_env.specs.declared.entry.Kind.TheVariants as kind
use Rattle.lk_env.specs.declared.entry.Partial.{Partial}
use Rattle.lk_env.specs.declared.entry.Partial.TheVariants.{Nothing, Types, Members as AllMembers}
use Rattle.lk_env.specs.declared.unit.Block.{Block}
use Rattle.lk_env.specs.declared.unit.Unit.TheVariants as unit
use Rattle.lk_env.specs.Units.{recursor_at, block_at}
use Rattle.lk_env.specs.Places.{entry_at, partial_entry_at}
use Rattle.lk_env.specs.Entries.{entry_of, IsKindIn}
use Rattle.lk_env.specs.Member.{bare_kind, is_type_kind, Stands, IsMember}

abbrev bare_plain : PlainKind → PlainKind
bare_plain (a_rec r) = a_rec (record r { rules = [] })
bare_plain k = k

abbrev bare_entry : PlainEntry → PlainEntry
bare_entry e = record { levels = e.levels; type = e.type; kind = bare_plain e.kind }

abbrev bare_member : Name × PlainEntry → Name × PlainEntry
bare_member m = (m.0, bare_entry m.1)

bare_types : (b : PlainBlock) (ts : List PlainType) → type_entries b ts ≡ map bare_member (type_entries b ts)
bare_types b [] = refl
bare_types b (t ∷ ts) = ap (λ ms. (t.name, record { levels = t.levels; type = t.type; kind = a_type b t }) ∷ ms) (bare_types b ts)

bare_ctors : (b : PlainBlock) (t : PlainType) (ks : List Ctor) → ctor_entries b t ks ≡ map bare_member (ctor_entries b t ks)
bare_ctors b t [] = refl
bare_ctors b t (k ∷ ks) = ap (λ ms. (k.name, record { levels = k.levels; type = k.type; kind = a_ctor b t k }) ∷ ms) (bare_ctors b t ks)

both_bare : (xs ys vs ws : Members) → xs ≡ map bare_member vs → ys ≡ map bare_member ws → xs ++ ys ≡ map bare_member (vs ++ ws)
both_bare xs ys vs ws e f = ap (λ l. l ++ ys) e ∙ ap (λ l. map bare_member vs ++ l) f ∙ sym (map-append bare_member vs ws)

bare_all_ctors : (b : PlainBlock) (ts : List PlainType) → all_ctor_entries b ts ≡ map bare_member (all_ctor_entries b ts)
bare_all_ctors b [] = refl
bare_all_ctors b (t ∷ ts) =
    both_bare (ctor_entries b t t.ctors) (all_ctor_entries b ts) (ctor_entries b t t.ctors) (all_ctor_entries b ts) (bare_ctors b t t.ctors) (bare_all_ctors b ts)

bare_recs : (rs : List BlockRecursor) → rec_entries rs ≡ map bare_member (rec_members rs)
bare_recs [] = refl
bare_recs (r ∷ rs) = ap (λ ms. (r.name, record { levels = r.levels; type = r.type; kind = a_rec (record r.recursor { rules = [] }) }) ∷ ms) (bare_recs rs)

all_bare : (b : PlainBlock) (rs : List BlockRecursor) → partial_types b ++ partial_members b rs ≡ map bare_member (members_of (of_block b rs))
all_bare b rs =
    both_bare (type_entries b b.types) (all_ctor_entries b b.types ++ rec_entries rs) (type_entries b b.types) (all_ctor_entries b b.types ++ rec_members rs)
    (bare_types b b.types)
    (both_bare (all_ctor_entries b b.types) (rec_entries rs) (all_ctor_entries b b.types) (rec_members rs) (bare_all_ctors b b.types) (bare_recs rs))

entry_is_bare : (b : PlainBlock) (rs : List BlockRecursor) (j : ℕ) → partial_entry_at (of_block b rs) AllMembers j ≡ option_map bare_entry (entry_at (of_block b rs) j)
entry_is_bare b rs j =
    ap (λ ms. option_map (λ (m : Name × PlainEntry). m.1) (slice_get ms j)) (all_bare b rs)
    ∙ ap (option_map (λ (m : Name × PlainEntry). m.1)) (slice_get-map bare_member (members_of (of_block b rs)) j)
    ∙ go (slice_get (members_of (of_block b rs)) j)
  where
    go : (o : Option (Name × PlainEntry)) → option_map (λ (m : Name × PlainEntry). m.1) (option_map bare_member o) ≡ option_map bare_entry (option_map (λ (m : Name × PlainEntry). m.1) o)
    go None = refl
    go (Some m) = refl

abbrev is_type_plain : PlainKind → Bool
is_type_plain (a_type b t) = true
is_type_plain k = false

abbrev type_alone : PlainEntry → Option PlainEntry
type_alone e = if is_type_plain e.kind then Some e else None

-- no type is among the constructors and recursors
abbrev NoTypes : Members → Type 0
NoTypes [] = Unit {0}
NoTypes (m ∷ ms) = (type_alone m.1 ≡ None) × NoTypes ms

no_types_behind : (xs ys : Members) → NoTypes xs → NoTypes ys → NoTypes (xs ++ ys)
no_types_behind [] ys h k = k
no_types_behind (x ∷ xs) ys h k = (h.0, no_types_behind xs ys h.1 k)

no_type_ctor : (b : PlainBlock) (t : PlainType) (ks : List Ctor) → NoTypes (ctor_entries b t ks)
no_type_ctor b t [] = tt
no_type_ctor b t (k ∷ ks) = (refl, no_type_ctor b t ks)

no_type_ctors : (b : PlainBlock) (ts : List PlainType) → NoTypes (all_ctor_entries b ts)
no_type_ctors b [] = tt
no_type_ctors b (t ∷ ts) = no_types_behind (ctor_entries b t t.ctors) (all_ctor_entries b ts) (no_type_ctor b t t.ctors) (no_type_ctors b ts)

no_type_recs : (rs : List BlockRecursor) → NoTypes (rec_members rs)
no_type_recs [] = tt
no_type_recs (r ∷ rs) = (refl, no_type_recs rs)

none_alone : (ms : Members) (j : ℕ) → NoTypes ms → None ≡ option_and_then type_alone (option_map (λ (m : Name × PlainEntry). m.1) (slice_get ms j))
none_alone [] j h = refl
none_alone (m ∷ ms) zero h = sym h.0
none_alone (m ∷ ms) (suc j) h = none_alone ms j h.1

types_alone : (b : PlainBlock) (ts : List PlainType) (rest : Members) (j : ℕ) → NoTypes rest
    → option_map (λ (m : Name × PlainEntry). m.1) (slice_get (type_entries b ts) j) ≡ option_and_then type_alone (option_map (λ (m : Name × PlainEntry). m.1) (slice_get (type_entries b ts ++ rest) j))
types_alone b [] rest j h = none_alone rest j h
types_alone b (t ∷ ts) rest zero h = refl
types_alone b (t ∷ ts) rest (suc j) h = types_alone b ts rest j h

entry_is_alone : (b : PlainBlock) (rs : List BlockRecursor) (j : ℕ) → partial_entry_at (of_block b rs) Types j ≡ option_and_then type_alone (entry_at (of_block b rs) j)
entry_is_alone b rs j =
    types_alone b b.types (all_ctor_entries b b.types ++ rec_members rs) j (no_types_behind (all_ctor_entries b b.types) (rec_members rs) (no_type_ctors b b.types) (no_type_recs rs))

pub no_entry : (b : PlainBlock) (rs : List BlockRecursor) (p : Partial) (j : ℕ) → entry_at (of_block b rs) j ≡ None → partial_entry_at (of_block b rs) p j ≡ None
no_entry b rs Nothing j h = refl
no_entry b rs Types j h = entry_is_alone b rs j ∙ ap (option_and_then type_alone) h
no_entry b rs AllMembers j h = entry_is_bare b rs j ∙ ap (option_map bare_entry) h

-- The same of kinds by numbers.
module _ (c : Contents) (b : PlainBlock) (rs : List BlockRecursor) (T : Tree) where
  bare_of : (k : Kind) → option_map bare_entry (entry_of c (of_block b rs) k T) ≡ entry_of c (of_block b rs) (bare_kind k) T
  bare_of (kind.Declared d) = refl
  bare_of (kind.Type i) = go (slice_get b.types i)
    where
      go : (o : Option PlainType) → option_map bare_entry (option_map (λ (t : PlainType). record { levels = t.levels; type = T; kind = a_type b t }) o)
          ≡ option_map (λ (t : PlainType). record { levels = t.levels; type = T; kind = a_type b t }) o
      go None = refl
      go (Some t) = refl
  bare_of (kind.Constructor i j) = go (slice_get b.types i)
    where
      inner : (t : PlainType) (o : Option Ctor) → option_map bare_entry (option_map (λ (k : Ctor). record { levels = k.levels; type = T; kind = a_ctor b t k }) o)
          ≡ option_map (λ (k : Ctor). record { levels = k.levels; type = T; kind = a_ctor b t k }) o
      inner t None = refl
      inner t (Some k) = refl

      go : (o : Option PlainType)
          → option_map bare_entry (option_and_then (λ (t : PlainType). option_map (λ (k : Ctor). record { levels = k.levels; type = T; kind = a_ctor b t k }) (slice_get t.ctors j)) o)
          ≡ option_and_then (λ (t : PlainType). option_map (λ (k : Ctor). record { levels = k.levels; type = T; kind = a_ctor b t k }) (slice_get t.ctors j)) o
      go None = refl
      go (Some t) = inner t (slice_get t.ctors j)
  bare_of (kind.Recursor i) = go (slice_get rs i)
    where
      go : (o : Option BlockRecursor) → option_map bare_entry (option_map (λ (r : BlockRecursor). record { levels = r.levels; type = T; kind = a_rec r.recursor }) o)
          ≡ option_map (λ (r : BlockRecursor). record { levels = r.levels; type = T; kind = a_rec (record r.recursor { rules = [] }) }) o
      go None = refl
      go (Some r) = refl
  bare_of (kind.BareRecursor i) = go (slice_get rs i)
    where
      go : (o : Option BlockRecursor) → option_map bare_entry (option_map (λ (r : BlockRecursor). record { levels = r.levels; type = T; kind = a_rec (record r.recursor { rules = [] }) }) o)
          ≡ option_map (λ (r : BlockRecursor). record { levels = r.levels; type = T; kind = a_rec (record r.recursor { rules = [] }) }) o
      go None = refl
      go (Some r) = refl

  alone_of : (k : Kind) → option_and_then type_alone (entry_of c (of_block b rs) k T) ≡ (if is_type_kind k then entry_of c (of_block b rs) k T else None)
  alone_of (kind.Declared d) = refl
  alone_of (kind.Type i) = go (slice_get b.types i)
    where
      go : (o : Option PlainType) → option_and_then type_alone (option_map (λ (t : PlainType). record { levels = t.levels; type = T; kind = a_type b t }) o)
          ≡ option_map (λ (t : PlainType). record { levels = t.levels; type = T; kind = a_type b t }) o
      go None = refl
      go (Some t) = refl
  alone_of (kind.Constructor i j) = go (slice_get b.types i)
    where
      inner : (t : PlainType) (o : Option Ctor) → option_and_then type_alone (option_map (λ (k : Ctor). record { levels = k.levels; type = T; kind = a_ctor b t k }) o) ≡ None
      inner t None = refl
      inner t (Some k) = refl

      go : (o : Option PlainType)
          → option_and_then type_alone (option_and_then (λ (t : PlainType). option_map (λ (k : Ctor). record { levels = k.levels; type = T; kind = a_ctor b t k }) (slice_get t.ctors j)) o) ≡ None
      go None = refl
      go (Some t) = inner t (slice_get t.ctors j)
  alone_of (kind.Recursor i) = go (slice_get rs i)
    where
      go : (o : Option BlockRecursor) → option_and_then type_alone (option_map (λ (r : BlockRecursor). record { levels = r.levels; type = T; kind = a_rec r.recursor }) o) ≡ None
      go None = refl
      go (Some r) = refl
  alone_of (kind.BareRecursor i) = go (slice_get rs i)
    where
      go : (o : Option BlockRecursor) → option_and_then type_alone (option_map (λ (r : BlockRecursor). record { levels = r.levels; type = T; kind = a_rec (record r.recursor { rules = [] }) }) o) ≡ None
      go None = refl
      go (Some r) = refl

some_bare : (o : Option PlainEntry) → IsSome o → IsSome (option_map bare_entry o)
some_bare None h = absurd cc
some_bare (Some e) h = refl

bare_known : (c : Contents) (k : Kind) → IsKindIn c k → IsKindIn c (bare_kind k)
bare_known c (kind.Declared d) h = h
bare_known c (kind.Type i) h = h
bare_known c (kind.Constructor i j) h = h
bare_known c (kind.Recursor i) h = tt
bare_known c (kind.BareRecursor i) h = h

module _ (c : Contents) (b : Block) (j : ℕ) where
  abbrev plain : PlainBlock
  plain = block_at c b

  abbrev recs : List BlockRecursor
  recs = map (recursor_at c) b.recursors.value.items

  -- a member as it is partial with all members
  pub bare_stands : (e f : Entry) → f.stated ≡ e.stated → f.kind ≡ bare_kind e.kind → IsMember c (unit.Block b) j e → Stands c (unit.Block b) (partial_entry_at (of_block plain recs) AllMembers j) f
  bare_stands e f stated is s = record {
    given = rw (entry_is_bare plain recs j) (some_bare (entry_at (of_block plain recs) j) s.given);
    member =
        entry_is_bare plain recs j
        ∙ ap (option_map bare_entry) s.member
        ∙ bare_of c plain recs (tree_at c e.stated) e.kind
        ∙ ap (λ k. entry_of c (of_block plain recs) k (tree_at c e.stated)) (sym is)
        ∙ ap (λ n. entry_of c (of_block plain recs) f.kind (tree_at c n)) (sym stated);
    known = λ known. record { kind_in = rw is (bare_known c e.kind (s.known known).kind_in); stated_in = rw stated (s.known known).stated_in };
  }

  alone_at : (e : Entry) (t : Bool) → is_type_kind e.kind ≡ t → IsMember c (unit.Block b) j e
      → partial_entry_at (of_block plain recs) Types j ≡ (if t then entry_of c (of_block plain recs) e.kind (tree_at c e.stated) else None)
  alone_at e t is s =
      entry_is_alone plain recs j
      ∙ ap (option_and_then type_alone) s.member
      ∙ alone_of c plain recs (tree_at c e.stated) e.kind
      ∙ ap (λ v. if v then entry_of c (of_block plain recs) e.kind (tree_at c e.stated) else None) is

  -- a type as it is partial with the types
  pub type_stands : (e : Entry) → is_type_kind e.kind ≡ true → IsMember c (unit.Block b) j e → Stands c (unit.Block b) (partial_entry_at (of_block plain recs) Types j) e
  type_stands e is s = record { given = rw (alone_at e true is s, ← s.member) s.given; member = alone_at e true is s; known = s.known }

  -- what is not a type is not partial with the types
  pub no_type_stands : (e : Entry) → is_type_kind e.kind ≡ false → IsMember c (unit.Block b) j e → partial_entry_at (of_block plain recs) Types j ≡ None
  no_type_stands e is s = alone_at e false is s
