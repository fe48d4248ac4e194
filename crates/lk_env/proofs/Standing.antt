-- What stands at a number among the members of a unit.
use Rattle.std.proofs.Common.{◌≡◌, ℕ, zero, suc, ◌+◌, List, [], ◌∷◌, ◌++◌, length, map, take, Option, Some, None, refl, ap, sym, ◌∙◌, subst, arith, length-append}
use Rattle.std.specs.Prelude.{All, option_map, option_and_then, slice_get}
use Rattle.std.specs.List.{flat_map}
use Rattle.std.proofs.lemmas.List.{length-map}
use Rattle.std.proofs.lemmas.List.Elements.{All-get_or}
use Rattle.std.proofs.lemmas.Option.{slice_get-map, slice_get_within, get_or_from_slice_get}
use Rattle.lk_tree.specs.Tree.{Name}
use Rattle.lk_rulebook.specs.Place.{Ctor, BlockRecursor, a_type, a_ctor, a_rec}
use Rattle.lk_rulebook.specs.Place.{BlockType as PlainType, Block as PlainBlock, Entry as PlainEntry}
use Rattle.lk_rulebook.specs.Units.{members_of, type_entries, ctor_entries, all_ctor_entries, rec_members}
use Rattle.lk_store.specs.Contents.{Contents, name_at, tree_at}
use Rattle.lk_env.specs.declared.entry.Entry.{Entry}
use Rattle.lk_env.specs.declared.entry.Kind.TheVariants as kind
use Rattle.lk_env.specs.declared.unit.Constructor.{Constructor}
use Rattle.lk_env.specs.declared.unit.BlockType.{BlockType}
use Rattle.lk_env.specs.declared.unit.Recursor.{Recursor}
use Rattle.lk_env.specs.declared.unit.Block.{Block}
use Rattle.lk_env.specs.declared.unit.Unit.{Unit as StoredUnit}
use Rattle.lk_env.specs.declared.unit.Unit.TheVariants as unit
use Rattle.lk_env.specs.Units.{constructor_at, type_at, recursor_at, block_at, unit_at, IsConstructorIn, IsTypeIn, IsRecursorIn, IsUnitIn}
use Rattle.lk_env.specs.Index.{constructor_names}
use Rattle.lk_env.specs.Places.{entry_at}
use Rattle.lk_env.specs.Entries.{entry_of, IsEntryIn}
use Rattle.lk_env.specs.Member.{recursor_entry_at, IsConstructorAt, IsMember, IsMemberIfAny}

pub get_left : {A : Type 0} (xs ys : List A) (i : ℕ) (x : A) → slice_get xs i ≡ Some x → slice_get (xs ++ ys) i ≡ Some x
get_left [] ys i x h = absurd cc
get_left (y ∷ xs) ys zero x h = h
get_left (y ∷ xs) ys (suc i) x h = get_left xs ys i x h

get_right : {A : Type 0} (xs ys : List A) (i : ℕ) → slice_get (xs ++ ys) (length xs + i) ≡ slice_get ys i
get_right {A} [] ys i = let e : 0 + i ≡ i = omega arith in ap (slice_get ys) e
get_right (x ∷ xs) ys i = let e : length (x ∷ xs) + i ≡ suc (length xs + i) = omega arith in ap (slice_get ((x ∷ xs) ++ ys)) e ∙ get_right xs ys i

pub holds_at : {A : Type 0} (P : A → Type 0) (xs : List A) (i : ℕ) (x : A) → slice_get xs i ≡ Some x → All P xs → P x
holds_at P xs i x h all = subst P (get_or_from_slice_get xs i x x h) (All-get_or P xs i x (slice_get_within xs i x h) all)

is_member : (c : Contents) (u : StoredUnit) (j : ℕ) (e : Entry) (y : PlainEntry) → entry_at (unit_at c u) j ≡ Some y → entry_of c (unit_at c u) e.kind (tree_at c e.stated) ≡ Some y
    → (IsUnitIn c u → IsEntryIn c e) → IsMember c u j e
is_member c u j e y h k known = record { given = rw h refl; member = h ∙ sym k; known = known }

-- The entries of a block by their numbers.
abbrev type_entry : PlainBlock → PlainType → PlainEntry
type_entry b t = record { levels = t.levels; type = t.type; kind = a_type b t }

abbrev ctor_entry : PlainBlock → PlainType → Ctor → PlainEntry
ctor_entry b t k = record { levels = k.levels; type = k.type; kind = a_ctor b t k }

abbrev rec_entry : BlockRecursor → PlainEntry
rec_entry r = record { levels = r.levels; type = r.type; kind = a_rec r.recursor }

nth_type : (b : PlainBlock) (ts : List PlainType) (i : ℕ) → slice_get (type_entries b ts) i ≡ option_map (λ (t : PlainType). (t.name, type_entry b t)) (slice_get ts i)
nth_type b [] i = refl
nth_type b (t ∷ ts) zero = refl
nth_type b (t ∷ ts) (suc i) = nth_type b ts i

nth_ctor : (b : PlainBlock) (t : PlainType) (ks : List Ctor) (i : ℕ) → slice_get (ctor_entries b t ks) i ≡ option_map (λ (k : Ctor). (k.name, ctor_entry b t k)) (slice_get ks i)
nth_ctor b t [] i = refl
nth_ctor b t (k ∷ ks) zero = refl
nth_ctor b t (k ∷ ks) (suc i) = nth_ctor b t ks i

nth_rec : (rs : List BlockRecursor) (i : ℕ) → slice_get (rec_members rs) i ≡ option_map (λ (r : BlockRecursor). (r.name, rec_entry r)) (slice_get rs i)
nth_rec [] i = refl
nth_rec (r ∷ rs) zero = refl
nth_rec (r ∷ rs) (suc i) = nth_rec rs i

module _ (c : Contents) where
  type_count : (b : PlainBlock) (ts : List BlockType) → length (type_entries b (map (type_at c) ts)) ≡ length ts
  type_count b [] = refl
  type_count b (t ∷ ts) = ap suc (type_count b ts)

  ctor_count : (b : PlainBlock) (t : PlainType) (ks : List Constructor) → length (ctor_entries b t (map (constructor_at c) ks)) ≡ length ks
  ctor_count b t [] = refl
  ctor_count b t (k ∷ ks) = ap suc (ctor_count b t ks)

  own_count : (b : PlainBlock) (t : BlockType) → length (ctor_entries b (type_at c t) (map (constructor_at c) t.constructors.items)) ≡ length (constructor_names t)
  own_count b t = ctor_count b (type_at c t) t.constructors.items ∙ sym (length-map t.constructors.items (λ (k : Constructor). k.name))

  all_ctor_count : (b : PlainBlock) (ts : List BlockType) → length (all_ctor_entries b (map (type_at c) ts)) ≡ length (flat_map constructor_names ts)
  all_ctor_count b [] = refl
  all_ctor_count b (t ∷ ts) =
      let own = own_count b t in
      let rest = all_ctor_count b ts in
      let left = length-append (ctor_entries b (type_at c t) (map (constructor_at c) t.constructors.items)) (all_ctor_entries b (map (type_at c) ts)) in
      let right = length-append (constructor_names t) (flat_map constructor_names ts) in
      left ∙ ap (λ n. n + length (all_ctor_entries b (map (type_at c) ts))) own ∙ ap (λ n. length (constructor_names t) + n) rest ∙ sym right

  -- a constructor of type i, behind those of the types before it
  nth_of_all : (b : PlainBlock) (ts : List BlockType) (i j : ℕ) (t : BlockType) (k : Constructor) → slice_get ts i ≡ Some t → slice_get t.constructors.items j ≡ Some k
      → slice_get (all_ctor_entries b (map (type_at c) ts)) (length (flat_map constructor_names (take i ts)) + j) ≡ Some (name_at c k.name, ctor_entry b (type_at c t) (constructor_at c k))
  nth_of_all b [] i j t k h e = absurd cc
  nth_of_all b (s ∷ ts) zero j t k h e =
      let same : s ≡ t = cc in
      let at : 0 + j ≡ j = omega arith in
      let p : PlainType = type_at c t in
      ap (slice_get (all_ctor_entries b (map (type_at c) (s ∷ ts)))) at
      ∙ ap (λ v. slice_get (ctor_entries b (type_at c v) (map (constructor_at c) v.constructors.items) ++ all_ctor_entries b (map (type_at c) ts)) j) same
      ∙ get_left (ctor_entries b p p.ctors) (all_ctor_entries b (map (type_at c) ts)) j (name_at c k.name, ctor_entry b p (constructor_at c k))
      (nth_ctor b p p.ctors j ∙ ap (option_map (λ (k : Ctor). (k.name, ctor_entry b p k))) (slice_get-map (constructor_at c) t.constructors.items j ∙ ap (option_map (constructor_at c)) e))
  nth_of_all b (s ∷ ts) (suc i) j t k h e =
      let own : List (Name × PlainEntry) = ctor_entries b (type_at c s) (map (constructor_at c) s.constructors.items) in
      let count = own_count b s in
      let both = length-append (constructor_names s) (flat_map constructor_names (take i ts)) in
      let at : length (constructor_names s ++ flat_map constructor_names (take i ts)) + j ≡ length own + (length (flat_map constructor_names (take i ts)) + j) = omega (arith, count, both) in
      ap (slice_get (own ++ all_ctor_entries b (map (type_at c) ts))) at
      ∙ get_right own (all_ctor_entries b (map (type_at c) ts)) (length (flat_map constructor_names (take i ts)) + j)
      ∙ nth_of_all b ts i j t k h e

  module _ (b : Block) where
    abbrev plain : PlainBlock
    plain = block_at c b

    abbrev recs : List BlockRecursor
    recs = map (recursor_at c) b.recursors.value.items

    nth_plain : (i : ℕ) (t : BlockType) → slice_get b.types.items i ≡ Some t → slice_get plain.types i ≡ Some (type_at c t)
    nth_plain i t h = slice_get-map (type_at c) b.types.items i ∙ ap (option_map (type_at c)) h

    after_types : (i j : ℕ) → j ≡ length b.types.items + i → slice_get (members_of (unit_at c (unit.Block b))) j ≡ slice_get (all_ctor_entries plain plain.types ++ rec_members recs) i
    after_types i j e =
        let count = type_count plain b.types.items in
        let at : j ≡ length (type_entries plain plain.types) + i = omega (arith, count, e) in
        ap (slice_get (members_of (unit_at c (unit.Block b)))) at ∙ get_right (type_entries plain plain.types) (all_ctor_entries plain plain.types ++ rec_members recs) i

    pub type_member : (n i : ℕ) (t : BlockType) → slice_get b.types.items i ≡ Some t → IsMember c (unit.Block b) i (record { kind = kind.Type i; stated = t.ty; unit = n; origin = n })
    type_member n i t h =
        let at = nth_plain i t h in
        let y : PlainEntry = type_entry plain (type_at c t) in
        is_member c (unit.Block b) i (record { kind = kind.Type i; stated = t.ty; unit = n; origin = n }) y
        (ap (option_map (λ (m : Name × PlainEntry). m.1)) (get_left (type_entries plain plain.types) (all_ctor_entries plain plain.types ++ rec_members recs) i (name_at c t.name, y)
        (nth_type plain plain.types i ∙ ap (option_map (λ (t : PlainType). (t.name, type_entry plain t))) at)))
        (ap (option_map (λ (p : PlainType). record { levels = p.levels; type = tree_at c t.ty; kind = a_type plain p })) at)
        (λ known. record { kind_in = tt; stated_in = (holds_at (IsTypeIn c) b.types.items i t h known.0).stated.ty_in })

    pub constructor_member : (place j : ℕ) (e : Entry) → j ≡ length b.types.items + place → IsConstructorAt b.types.items place e → IsMember c (unit.Block b) j e
    constructor_member place j e h s =
        let p : PlainType = type_at c s.type in
        let q : Ctor = constructor_at c s.constructor in
        let y : PlainEntry = ctor_entry plain p q in
        let at = nth_plain s.parent s.type s.type_is in
        let within = slice_get-map (constructor_at c) s.type.constructors.items s.number ∙ ap (option_map (constructor_at c)) s.constructor_is in
        is_member c (unit.Block b) j e y
        (ap (option_map (λ (m : Name × PlainEntry). m.1)) (after_types place j h
        ∙ get_left (all_ctor_entries plain plain.types) (rec_members recs) place (q.name, y)
        (ap (slice_get (all_ctor_entries plain plain.types)) (sym s.place_is) ∙ nth_of_all plain b.types.items s.parent s.number s.type s.constructor s.type_is s.constructor_is)))
        (ap (λ k. entry_of c (unit_at c (unit.Block b)) k (tree_at c e.stated)) s.kind_is
        ∙ ap (λ n. entry_of c (unit_at c (unit.Block b)) (kind.Constructor s.parent s.number) (tree_at c n)) s.stated_is
        ∙ ap (option_and_then (λ (t : PlainType). option_map (λ (k : Ctor). record { levels = k.levels; type = q.type; kind = a_ctor plain t k }) (slice_get t.ctors s.number))) at
        ∙ ap (option_map (λ (k : Ctor). record { levels = k.levels; type = q.type; kind = a_ctor plain p k })) within)
        (λ known.
        let type_in : IsTypeIn c s.type = holds_at (IsTypeIn c) b.types.items s.parent s.type s.type_is known.0 in
        let constructor_in : IsConstructorIn c s.constructor = holds_at (IsConstructorIn c) s.type.constructors.items s.number s.constructor s.constructor_is type_in.constructors_in in
        record { kind_in = rw s.kind_is tt; stated_in = rw s.stated_is constructor_in.stated.ty_in })

    nth_recursor : (i place j : ℕ) → length (flat_map constructor_names b.types.items) + i ≡ place → j ≡ length b.types.items + place
        → entry_at (unit_at c (unit.Block b)) j ≡ option_map (λ (r : Recursor). rec_entry (recursor_at c r)) (slice_get b.recursors.value.items i)
    nth_recursor i place j e h =
        let count = all_ctor_count plain b.types.items in
        let at : place ≡ length (all_ctor_entries plain plain.types) + i = omega (arith, count, e) in
        ap (option_map (λ (m : Name × PlainEntry). m.1)) (after_types place j h
        ∙ ap (slice_get (all_ctor_entries plain plain.types ++ rec_members recs)) at
        ∙ get_right (all_ctor_entries plain plain.types) (rec_members recs) i
        ∙ nth_rec recs i
        ∙ ap (option_map (λ (r : BlockRecursor). (r.name, rec_entry r))) (slice_get-map (recursor_at c) b.recursors.value.items i))
        ∙ twice (slice_get b.recursors.value.items i)
      where
        twice : (o : Option Recursor) → option_map (λ (m : Name × PlainEntry). m.1) (option_map (λ (r : BlockRecursor). (r.name, rec_entry r)) (option_map (recursor_at c) o)) ≡ option_map (λ (r : Recursor). rec_entry (recursor_at c r)) o
        twice None = refl
        twice (Some r) = refl

    pub recursor_member : (n i place j : ℕ) (o : Option Entry) → length (flat_map constructor_names b.types.items) + i ≡ place → j ≡ length b.types.items + place
        → o ≡ option_map (recursor_entry_at n i) (slice_get b.recursors.value.items i) → IsMemberIfAny c (unit.Block b) j o
    recursor_member n i place j o e h is = rw is (go (slice_get b.recursors.value.items i) refl (nth_recursor i place j e h))
      where
        go : (r : Option Recursor) → slice_get b.recursors.value.items i ≡ r → entry_at (unit_at c (unit.Block b)) j ≡ option_map (λ (r : Recursor). rec_entry (recursor_at c r)) r
            → IsMemberIfAny c (unit.Block b) j (option_map (recursor_entry_at n i) r)
        go None at entry = entry
        go (Some r) at entry =
            is_member c (unit.Block b) j (recursor_entry_at n i r) (rec_entry (recursor_at c r)) entry
            (ap (option_map (λ (p : BlockRecursor). record { levels = p.levels; type = tree_at c r.ty; kind = a_rec p.recursor })) (slice_get-map (recursor_at c) b.recursors.value.items i ∙ ap (option_map (recursor_at c)) at))
            (λ known. record { kind_in = tt; stated_in = (holds_at (IsRecursorIn c) b.recursors.value.items i r at known.1).stated.ty_in })
