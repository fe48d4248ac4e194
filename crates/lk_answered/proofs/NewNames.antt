-- Where the names are new, Nat.zero is the constructor of the Nat that has its shape, and has no value.
use Rattle.std.proofs.Common.{ℕ, zero, suc, ◌≡◌, ◌<◌, List, [], ◌∷◌, ◌++◌, take, Option, Some, None, refl, sym, ap, subst, ◌∙◌, arith}
use Rattle.std.specs.Prelude.{option_and_then, slice_get}
use Rattle.lk_tree.specs.Tree.{Name, name_discrete, Tree}
use Rattle.lk_tree.specs.declared.rule.Rule.{Rule}
use Rattle.lk_rulebook.specs.Place.{Entry, Kind, a_type, a_ctor, a_rec, Block, BlockType, Ctor, BlockRecursor}
use Rattle.lk_rulebook.specs.Names.{nat}
use Rattle.lk_rulebook.specs.Rules.{HasValue, of_def, of_thm}
use Rattle.lk_rulebook.specs.Scan.{AreNew}
use Rattle.lk_rulebook.specs.Units.{Body, as_axiom, as_def, as_thm, as_opaque, as_quot, LibraryUnit, of_decl, of_block, Library, Members, type_entries, ctor_entries, all_ctor_entries, rec_members, kind_of, members_of, given_by, first_of_two, at_unit, first_giving, flaw_of, flawless, place_of}
use Rattle.lk_claims.proofs.Pieces.{Some_inj}
use Rattle.lk_written.specs.Written.{KeepsNumerals}
use Rattle.lk_answered.specs.NewNames.{NamesAreNew}

-- the name is one of the members'
abbrev IsAmong : Name → Members → Type 0
IsAmong c ms = given_by ms c ≡ None → ⊥

none_in_both : (xs ys : Members) (c : Name) → given_by (xs ++ ys) c ≡ None → (given_by xs c ≡ None) × (given_by ys c ≡ None)
none_in_both [] ys c e = (refl, e)
none_in_both (x ∷ xs) ys c e = go (name_discrete x.0 c) e (none_in_both xs ys c)
  where
    go : (d : Dec (x.0 ≡ c)) → elim d as (λ y. Option Entry) [ yes z ↦ Some x.1 | no f ↦ given_by (xs ++ ys) c ] ≡ None →
        (given_by (xs ++ ys) c ≡ None → (given_by xs c ≡ None) × (given_by ys c ≡ None)) →
        (elim d as (λ y. Option Entry) [ yes z ↦ Some x.1 | no f ↦ given_by xs c ] ≡ None) × (given_by ys c ≡ None)
    go (yes z) k r = absurd cc
    go (no f) k r = r k

-- all members have the property
abbrev Each : (Entry → Type 0) → Members → Type 0
Each P [] = Unit {0}
Each P (m ∷ ms) = P m.1 × Each P ms

each_append : (P : Entry → Type 0) (xs ys : Members) → Each P xs → Each P ys → Each P (xs ++ ys)
each_append P [] ys h k = k
each_append P (x ∷ xs) ys h k = (h.0, each_append P xs ys h.1 k)

each_given : (P : Entry → Type 0) (ms : Members) (c : Name) (e : Entry) → Each P ms → given_by ms c ≡ Some e → P e
each_given P [] c e h g = absurd cc
each_given P (m ∷ ms) c e h g = go (name_discrete m.0 c) g (each_given P ms c e h.1)
  where
    go : (d : Dec (m.0 ≡ c)) → elim d as (λ y. Option Entry) [ yes z ↦ Some m.1 | no f ↦ given_by ms c ] ≡ Some e → (given_by ms c ≡ Some e → P e) → P e
    go (yes z) k r = subst P (Some_inj k) h.0
    go (no f) k r = r k

-- the entry of a member of a block; where it is of a type, the constructors of the type are among these members
abbrev OfBlock : Members → Kind → Type 0
OfBlock all (a_type b t) = (c : Ctor) (cs : List Ctor) → t.ctors ≡ c ∷ cs → IsAmong c.name all
OfBlock all (a_ctor b t c) = Unit {0}
OfBlock all (a_rec r) = Unit {0}
OfBlock all _ = ⊥

first_there : (b : Block) (t : BlockType) (c : Ctor) (cs ds : List Ctor) → ds ≡ c ∷ cs → IsAmong c.name (ctor_entries b t ds)
first_there b t c cs ds e = subst (λ xs. IsAmong c.name (ctor_entries b t xs)) (sym e) (go (name_discrete c.name c.name))
  where
    go : (d : Dec (c.name ≡ c.name)) → elim d as (λ y. Option Entry) [ yes z ↦ Some (record { levels = c.levels; type = c.type; kind = a_ctor b t c }) | no f ↦ given_by (ctor_entries b t cs) c.name ] ≡ None → ⊥
    go (yes z) k = absurd cc
    go (no f) k = f refl

module _ (b : Block) (all : Members) where
  types_of_block : (ts : List BlockType) → ((c : Name) → IsAmong c (all_ctor_entries b ts) → IsAmong c all) → Each (λ e. OfBlock all e.kind) (type_entries b ts)
  types_of_block [] up = tt
  types_of_block (t ∷ ts) up = (
    λ c cs e. up c.name (λ k. first_there b t c cs t.ctors e (none_in_both (ctor_entries b t t.ctors) (all_ctor_entries b ts) c.name k).0),
    types_of_block ts (λ c h. up c (λ k. h (none_in_both (ctor_entries b t t.ctors) (all_ctor_entries b ts) c k).1)),
  )

  ctors_of_block : (t : BlockType) (cs : List Ctor) → Each (λ e. OfBlock all e.kind) (ctor_entries b t cs)
  ctors_of_block t [] = tt
  ctors_of_block t (c ∷ cs) = (tt, ctors_of_block t cs)

  all_ctors_of_block : (ts : List BlockType) → Each (λ e. OfBlock all e.kind) (all_ctor_entries b ts)
  all_ctors_of_block [] = tt
  all_ctors_of_block (t ∷ ts) = each_append (λ e. OfBlock all e.kind) (ctor_entries b t t.ctors) (all_ctor_entries b ts) (ctors_of_block t t.ctors) (all_ctors_of_block ts)

  recs_of_block : (rs : List BlockRecursor) → Each (λ e. OfBlock all e.kind) (rec_members rs)
  recs_of_block [] = tt
  recs_of_block (r ∷ rs) = (tt, recs_of_block rs)

block_members : (b : Block) (rs : List BlockRecursor) → Each (λ e. OfBlock (members_of (of_block b rs)) e.kind) (members_of (of_block b rs))
block_members b rs =
    let types : Members = type_entries b b.types in
    let ctors : Members = all_ctor_entries b b.types in
    let all : Members = members_of (of_block b rs) in
    each_append (λ e. OfBlock all e.kind) types (ctors ++ rec_members rs)
    (types_of_block b all b.types (λ c h k. h (none_in_both ctors (rec_members rs) c (none_in_both types (ctors ++ rec_members rs) c k).1).0))
    (each_append (λ e. OfBlock all e.kind) ctors (rec_members rs) (all_ctors_of_block b all b.types) (recs_of_block b all rs))

-- no member of a block has a value
no_value : (ms : Members) (g : Entry) (v : Tree) → OfBlock ms g.kind → HasValue g v → ⊥
no_value ms g v h (of_def {h = i} k) = subst (OfBlock ms) k h
no_value ms g v h (of_thm k) = subst (OfBlock ms) k h

no_type : (x : Body) (b : Block) (t : BlockType) → kind_of x ≡ a_type b t → ⊥
no_type as_axiom b t e = absurd cc
no_type (as_def h v) b t e = absurd cc
no_type (as_thm v) b t e = absurd cc
no_type (as_opaque v) b t e = absurd cc
no_type as_quot b t e = absurd cc

-- what a unit that gives a type says of the type's first constructor
record GivesFirst (ms : Members) (c : Name) : Type 0 where
  among : IsAmong c ms
  valueless : (g : Entry) (v : Tree) → given_by ms c ≡ Some g → HasValue g v → ⊥

gives_first : (u : LibraryUnit) (n : Name) (e : Entry) (b : Block) (t : BlockType) (c : Ctor) (cs : List Ctor) → given_by (members_of u) n ≡ Some e → e.kind ≡ a_type b t → t.ctors ≡ c ∷ cs → GivesFirst (members_of u) c.name
gives_first (of_block d rs) n e b t c cs g k i =
    let ms : Members = members_of (of_block d rs) in
    let h : OfBlock ms (a_type b t) = subst (OfBlock ms) k (each_given (λ e. OfBlock ms e.kind) ms n e (block_members d rs) g) in
    record { among = h c cs i; valueless = λ x v y. no_value ms x v (each_given (λ e. OfBlock ms e.kind) ms c.name x (block_members d rs) y) }
gives_first (of_decl d) n e b t c cs g k i = go (name_discrete d.name n) g
  where
    go : (x : Dec (d.name ≡ n)) → elim x as (λ y. Option Entry) [ yes z ↦ Some (record { levels = d.levels; type = d.type; kind = kind_of d.body }) | no f ↦ None ] ≡ Some e → GivesFirst (members_of (of_decl d)) c.name
    go (yes z) h = absurd (no_type d.body b t (ap (λ x. x.kind) (Some_inj h) ∙ k))
    go (no f) h = absurd cc

-- the unit before unit n that gives the name first, where the first unit has number i
record IsGiver (us : Library) (n : ℕ) (c : Name) (e : Entry) : Type 0 where
  number : ℕ
  unit : LibraryUnit
  below : number < n
  at : slice_get us number ≡ Some unit
  gives : given_by (members_of unit) c ≡ Some e

unflawed : (x e : Entry) (o : Option Rule) → elim o as (λ y. Option Entry) [ None ↦ Some x | Some r ↦ None ] ≡ Some e → x ≡ e
unflawed x e None k = Some_inj k
unflawed x e (Some r) k = absurd cc

giver : (i n : ℕ) (us : Library) (c : Name) (e : Entry) → option_and_then flawless (first_giving i (take n us) c) ≡ Some e → IsGiver us n c e
giver i zero us c e h = absurd cc
giver i (suc n) [] c e h = absurd cc
giver i (suc n) (u ∷ us) c e h = go (given_by (members_of u) c) refl (giver (suc i) n us c e) h
  where
    go : (g : Option Entry) → given_by (members_of u) c ≡ g → (option_and_then flawless (first_giving (suc i) (take n us) c) ≡ Some e → IsGiver us n c e) →
        option_and_then flawless (first_of_two (at_unit i u g) (first_giving (suc i) (take n us) c)) ≡ Some e → IsGiver (u ∷ us) (suc n) c e
    go (Some x) j r k = record { number = 0; unit = u; below = omega arith; at = refl; gives = j ∙ ap Some (unflawed x e (flaw_of u) k) }
    go None j r k =
        let g : IsGiver us n c e = r k in
        let l : g.number < n = g.below in
        record { number = suc g.number; unit = g.unit; below = omega (arith, l); at = g.at; gives = g.gives }

-- what the first unit gives is found, where none before it gives the name
found_first : (i n m : ℕ) (us : Library) (u : LibraryUnit) (c : Name) (e : Entry) → m < n → slice_get us m ≡ Some u → first_giving i (take m us) c ≡ None → IsAmong c (members_of u) →
    option_and_then flawless (first_giving i (take n us) c) ≡ Some e → given_by (members_of u) c ≡ Some e
found_first i zero m us u c e l at none g h = absurd (omega arith)
found_first i (suc n) m [] u c e l at none g h = absurd cc
found_first i (suc n) zero (x ∷ us) u c e l at none g h =
    let same : x ≡ u = Some_inj at in
    subst (λ z. given_by (members_of z) c ≡ Some e) same (go (given_by (members_of x) c) refl h)
  where
    go : (o : Option Entry) → given_by (members_of x) c ≡ o → option_and_then flawless (first_of_two (at_unit i x o) (first_giving (suc i) (take n us) c)) ≡ Some e → given_by (members_of x) c ≡ Some e
    go (Some y) j k = j ∙ ap Some (unflawed y e (flaw_of x) k)
    go None j k = absurd (g (subst (λ z. given_by (members_of z) c ≡ None) (Some_inj at) j))
found_first i (suc n) (suc m) (x ∷ us) u c e l at none g h = go (given_by (members_of x) c) refl (found_first (suc i) n m us u c e (omega arith) at) none h
  where
    go : (o : Option Entry) → given_by (members_of x) c ≡ o →
        (first_giving (suc i) (take m us) c ≡ None → IsAmong c (members_of u) → option_and_then flawless (first_giving (suc i) (take n us) c) ≡ Some e → given_by (members_of u) c ≡ Some e) →
        first_of_two (at_unit i x o) (first_giving (suc i) (take m us) c) ≡ None → option_and_then flawless (first_of_two (at_unit i x o) (first_giving (suc i) (take n us) c)) ≡ Some e → given_by (members_of u) c ≡ Some e
    go (Some y) j r p q = absurd cc
    go None j r p q = r p g q

-- a name among new ones is not given before
new_name : (us : Library) (m : ℕ) (ms : Members) (c : Name) → AreNew us m ms → IsAmong c ms → first_giving 0 (take m us) c ≡ None
new_name us m [] c h g = absurd (g refl)
new_name us m (x ∷ ms) c h g = go (name_discrete x.0 c) g (new_name us m ms c h.2)
  where
    go : (d : Dec (x.0 ≡ c)) → (elim d as (λ y. Option Entry) [ yes z ↦ Some x.1 | no f ↦ given_by ms c ] ≡ None → ⊥) → (IsAmong c ms → first_giving 0 (take m us) c ≡ None) → first_giving 0 (take m us) c ≡ None
    go (yes z) k r = subst (λ y. first_giving 0 (take m us) y ≡ None) z h.0
    go (no f) k r = r k

pub numerals_kept : (us : Library) (n : ℕ) → NamesAreNew us n → KeepsNumerals (place_of us n [])
numerals_kept us n new shape g v m hv =
    let u : IsGiver us n nat shape.entry = giver 0 n us nat shape.entry shape.given in
    let c : Name = shape.zero_ctor.name in
    let first : GivesFirst (members_of u.unit) c = gives_first u.unit nat shape.entry shape.block shape.inductive shape.zero_ctor (shape.succ_ctor ∷ []) u.gives shape.kind shape.ctors in
    let none : first_giving 0 (take u.number us) c ≡ None = new_name us u.number (members_of u.unit) c (new u.number u.unit u.below u.at) first.among in
    let given : option_and_then flawless (first_giving 0 (take n us) c) ≡ Some g = subst (λ z. option_and_then flawless (first_giving 0 (take n us) z) ≡ Some g) (sym shape.zero_is.0) m in
    first.valueless g v (found_first 0 n u.number us u.unit c g u.below u.at none first.among given) hv
