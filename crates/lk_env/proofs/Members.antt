-- The names of members, by their numbers.
use Rattle.std.proofs.Common.{◌≡◌, ◌≢◌, ℕ, zero, suc, ◌+◌, ◌<◌, ◌≤◌, List, [], ◌∷◌, ◌++◌, length, map, take, get_or, append_assoc, cond, Option, Some, None, refl, ap, sym, ◌∙◌, arith, add-one, eq-eqb, nat_eq}
use Rattle.std.specs.Prelude.{All}
use Rattle.std.specs.List.{flat_map, position_from}
use Rattle.std.proofs.lemmas.Bool.{ne_eqb}
use Rattle.std.proofs.lemmas.List.{map-append, append-nil}
use Rattle.std.proofs.lemmas.List.Elements.{All-nil, All-cons, All-head, All-tail, All-append, All-map, All-weaker}
use Rattle.lk_tree.specs.Tree.{Name, name_discrete}
use Rattle.lk_rulebook.specs.Place.{Entry, Block as PlainBlock, BlockType as PlainType}
use Rattle.lk_rulebook.specs.Units.{Members, members_of, type_entries, ctor_entries, all_ctor_entries, rec_members}
use Rattle.lk_store.specs.Values.{AreApart}
use Rattle.lk_store.specs.Contents.{Contents, name_at, Extends}
use Rattle.lk_env.specs.declared.unit.Constructor.{Constructor}
use Rattle.lk_env.specs.declared.unit.BlockType.{BlockType}
use Rattle.lk_env.specs.declared.unit.Recursor.{Recursor}
use Rattle.lk_env.specs.declared.unit.Unit.{Unit as StoredUnit}
use Rattle.lk_env.specs.declared.unit.Unit.TheVariants as unit
use Rattle.lk_env.specs.Units.{constructor_at, type_at, recursor_at, block_at, unit_at, library_at, IsConstructorIn, IsTypeIn, IsRecursorIn, IsUnitIn, AreUnitsIn}
use Rattle.lk_env.specs.Places.{member_in, first_place, at_member, position_in}
use Rattle.lk_env.specs.Index.{constructor_names, member_names}

-- one more list
pub flat_map_more : {X A : Type 0} (f : X → List A) (xs : List X) (i : ℕ) (d : X) → i < length xs → flat_map f (take (i + 1) xs) ≡ flat_map f (take i xs) ++ f (get_or xs i d)
flat_map_more {X} f xs i d h = rw add-one (go xs i h)
  where
    go : (ys : List X) (k : ℕ) → k < length ys → flat_map f (take (suc k) ys) ≡ flat_map f (take k ys) ++ f (get_or ys k d)
    go [] k l = absurd (omega arith)
    go (y ∷ ys) zero l = append-nil (f y)
    go (y ∷ ys) (suc k) l = ap (λ l. f y ++ l) (go ys k (omega arith)) ∙ sym (append_assoc (f y) (flat_map f (take k ys)) (f (get_or ys k d)))

pub constructors_more : (start names after : List ℕ) (ts : List BlockType) (i : ℕ) (t : BlockType) → i < length ts → t ≡ get_or ts i t
    → names ≡ start ++ flat_map constructor_names (take i ts) → after ≡ names ++ constructor_names t → after ≡ start ++ flat_map constructor_names (take (i + 1) ts)
constructors_more start names after ts i t l is so_far pushed =
    let before : List ℕ = flat_map constructor_names (take i ts) in
    pushed
    ∙ ap (λ ns. ns ++ constructor_names t) so_far
    ∙ append_assoc start before (constructor_names t)
    ∙ ap (λ ns. start ++ ns) (ap (λ x. before ++ constructor_names x) is ∙ sym (flat_map_more constructor_names ts i t l))

pub three_lists : (start a b d x y z : List ℕ) → start ≡ [] → a ≡ start ++ x → b ≡ a ++ y → d ≡ b ++ z → d ≡ x ++ (y ++ z)
three_lists start a b d x y z none first second third =
    third ∙ ap (λ l. l ++ z) (second ∙ ap (λ l. l ++ y) (first ∙ ap (λ l. l ++ x) none)) ∙ append_assoc x y z

abbrev pub names_in : Members → List Name
names_in ms = map (λ (m : Name × Entry). m.0) ms

module _ (c : Contents) where
  -- The numbers are those of the members' names.
  type_names : (b : PlainBlock) (ts : List BlockType) → map (name_at c) (map (λ (t : BlockType). t.name) ts) ≡ names_in (type_entries b (map (type_at c) ts))
  type_names b [] = refl
  type_names b (t ∷ ts) = ap (λ ns. name_at c t.name ∷ ns) (type_names b ts)

  ctor_names : (b : PlainBlock) (t : PlainType) (ks : List Constructor) → map (name_at c) (map (λ (k : Constructor). k.name) ks) ≡ names_in (ctor_entries b t (map (constructor_at c) ks))
  ctor_names b t [] = refl
  ctor_names b t (k ∷ ks) = ap (λ ns. name_at c k.name ∷ ns) (ctor_names b t ks)

  all_ctor_names : (b : PlainBlock) (ts : List BlockType) → map (name_at c) (flat_map constructor_names ts) ≡ names_in (all_ctor_entries b (map (type_at c) ts))
  all_ctor_names b [] = refl
  all_ctor_names b (t ∷ ts) =
      map-append (name_at c) (constructor_names t) (flat_map constructor_names ts)
      ∙ ap (λ ns. ns ++ map (name_at c) (flat_map constructor_names ts)) (ctor_names b (type_at c t) t.constructors.items)
      ∙ ap (λ ns. names_in (ctor_entries b (type_at c t) (map (constructor_at c) t.constructors.items)) ++ ns) (all_ctor_names b ts)
      ∙ sym (map-append (λ (m : Name × Entry). m.0) (ctor_entries b (type_at c t) (map (constructor_at c) t.constructors.items)) (all_ctor_entries b (map (type_at c) ts)))

  recursor_names : (rs : List Recursor) → map (name_at c) (map (λ (r : Recursor). r.name) rs) ≡ names_in (rec_members (map (recursor_at c) rs))
  recursor_names [] = refl
  recursor_names (r ∷ rs) = ap (λ ns. name_at c r.name ∷ ns) (recursor_names rs)

  appended : (ms ns : List ℕ) (xs ys : Members) → map (name_at c) ms ≡ names_in xs → map (name_at c) ns ≡ names_in ys → map (name_at c) (ms ++ ns) ≡ names_in (xs ++ ys)
  appended ms ns xs ys e f =
      map-append (name_at c) ms ns ∙ ap (λ l. l ++ map (name_at c) ns) e ∙ ap (λ l. names_in xs ++ l) f ∙ sym (map-append (λ (m : Name × Entry). m.0) xs ys)

  pub member_names_are : (u : StoredUnit) → map (name_at c) (member_names u) ≡ names_in (members_of (unit_at c u))
  member_names_are (unit.Declaration d) = refl
  member_names_are (unit.Block b) =
      let p : PlainBlock = block_at c b in
      appended (map (λ (t : BlockType). t.name) b.types.items) (flat_map constructor_names b.types.items ++ map (λ (r : Recursor). r.name) b.recursors.value.items)
      (type_entries p p.types) (all_ctor_entries p p.types ++ rec_members (map (recursor_at c) b.recursors.value.items)) (type_names p b.types.items)
      (appended (flat_map constructor_names b.types.items) (map (λ (r : Recursor). r.name) b.recursors.value.items)
      (all_ctor_entries p p.types) (rec_members (map (recursor_at c) b.recursors.value.items)) (all_ctor_names p b.types.items) (recursor_names b.recursors.value.items))

  -- They are numbers of the store.
  abbrev pub IsNumber : ℕ → Type 0
  IsNumber n = n < length c.names

  all_ctors_known : (ts : List BlockType) → All (IsTypeIn c) ts → All IsNumber (flat_map constructor_names ts)
  all_ctors_known [] h = All-nil IsNumber
  all_ctors_known (t ∷ ts) h =
      let first : IsTypeIn c t = All-head (IsTypeIn c) t ts h in
      All-append IsNumber (constructor_names t) (flat_map constructor_names ts)
      (All-map IsNumber (λ (k : Constructor). k.name) t.constructors.items
      (All-weaker (IsConstructorIn c) (λ (k : Constructor). IsNumber k.name) (λ k s. s.stated.name_in) t.constructors.items first.constructors_in))
      (all_ctors_known ts (All-tail (IsTypeIn c) t ts h))

  pub members_known : (u : StoredUnit) → IsUnitIn c u → All IsNumber (member_names u)
  members_known (unit.Declaration d) h = All-cons IsNumber d.name [] h.0.name_in (All-nil IsNumber)
  members_known (unit.Block b) h =
      All-append IsNumber (map (λ (t : BlockType). t.name) b.types.items) (flat_map constructor_names b.types.items ++ map (λ (r : Recursor). r.name) b.recursors.value.items)
      (All-map IsNumber (λ (t : BlockType). t.name) b.types.items (All-weaker (IsTypeIn c) (λ (t : BlockType). IsNumber t.name) (λ t s. s.stated.name_in) b.types.items h.0))
      (All-append IsNumber (flat_map constructor_names b.types.items) (map (λ (r : Recursor). r.name) b.recursors.value.items)
      (all_ctors_known b.types.items h.0)
      (All-map IsNumber (λ (r : Recursor). r.name) b.recursors.value.items (All-weaker (IsRecursorIn c) (λ (r : Recursor). IsNumber r.name) (λ r s. s.stated.name_in) b.recursors.value.items h.1)))

  -- The first of the numbers is the first member of the name.
  position_is : (n : ℕ) → AreApart [] c.names → IsNumber n → (i : ℕ) (ns : List ℕ) (ms : Members) → All IsNumber ns → map (name_at c) ns ≡ names_in ms
      → position_from (λ m. nat_eq m n) i ns ≡ member_in i ms (name_at c n)
  position_is n apart known i [] [] all e = refl
  position_is n apart known i (a ∷ ns) (m ∷ ms) all e =
      let head : name_at c a ≡ m.0 = cc in
      let rest : map (name_at c) ns ≡ names_in ms = cc in
      go (name_discrete m.0 (name_at c n)) head (position_is n apart known (suc i) ns ms (All-tail IsNumber a ns all) rest)
    where
      go : (d : Dec (m.0 ≡ name_at c n)) → name_at c a ≡ m.0 → position_from (λ m. nat_eq m n) (suc i) ns ≡ member_in (suc i) ms (name_at c n)
          → cond (nat_eq a n) (Some i) (position_from (λ m. nat_eq m n) (i + 1) ns) ≡ elim d as (λ y. Option ℕ) [ yes e ↦ Some i | no f ↦ member_in (suc i) ms (name_at c n) ]
      go (yes e) h r = let same : a ≡ n = apart.apart a n (All-head IsNumber a ns all) known (h ∙ e) in rw (eq-eqb a n same) refl
      go (no f) h r = rw (ne_eqb a n (λ e. f (sym h ∙ ap (name_at c) e)), add-one) r
  position_is n apart known i [] (m ∷ ms) all e = absurd cc
  position_is n apart known i (a ∷ ns) [] all e = absurd cc

  pub place_of_number : (n : ℕ) (u : StoredUnit) → AreApart [] c.names → IsNumber n → IsUnitIn c u
      → position_from (λ m. nat_eq m n) 0 (member_names u) ≡ member_in 0 (members_of (unit_at c u)) (name_at c n)
  place_of_number n u apart known h = position_is n apart known 0 (member_names u) (members_of (unit_at c u)) (members_known u h) (member_names_are u)

  -- A name that has no number is given nowhere.
  module _ (x : Name) (absent : (n : ℕ) → n < length c.names → name_at c n ≢ x) where
    absent_member : (i : ℕ) (ns : List ℕ) (ms : Members) → All IsNumber ns → map (name_at c) ns ≡ names_in ms → member_in i ms x ≡ None
    absent_member i [] [] all e = refl
    absent_member i (a ∷ ns) (m ∷ ms) all e =
        let head : name_at c a ≡ m.0 = cc in
        let rest : map (name_at c) ns ≡ names_in ms = cc in
        go (name_discrete m.0 x) head (absent_member (suc i) ns ms (All-tail IsNumber a ns all) rest)
      where
        go : (d : Dec (m.0 ≡ x)) → name_at c a ≡ m.0 → member_in (suc i) ms x ≡ None → elim d as (λ y. Option ℕ) [ yes e ↦ Some i | no f ↦ member_in (suc i) ms x ] ≡ None
        go (yes e) h r = absurd (absent a (All-head IsNumber a ns all) (h ∙ e))
        go (no f) h r = r
    absent_member i [] (m ∷ ms) all e = absurd cc
    absent_member i (a ∷ ns) [] all e = absurd cc

    pub absent_position : (i : ℕ) (us : List StoredUnit) → AreUnitsIn c us → position_in i (library_at c us) x ≡ None
    absent_position i [] h = refl
    absent_position i (u ∷ us) h =
        let here = members_known u (All-head (IsUnitIn c) u us h) in
        ap (λ o. first_place (at_member i o) (position_in (suc i) (library_at c us) x)) (absent_member 0 (member_names u) (members_of (unit_at c u)) here (member_names_are u))
        ∙ absent_position (suc i) us (All-tail (IsUnitIn c) u us h)

-- A name that a store has beyond those of c is none of c's.
pub beyond_names : (c d : Contents) → Extends c d → AreApart [] d.names → (k : ℕ) → length c.names ≤ k → k < length d.names → (n : ℕ) → n < length c.names → name_at c n ≢ name_at d k
beyond_names c d over apart k beyond within n known e =
    let longer : length c.names ≤ length d.names = over.names.longer in
    let same : n ≡ k = apart.apart n k (omega arith) within (over.names.same n known ∙ e) in
    absurd (omega arith)
