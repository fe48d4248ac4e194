-- No block of a library that is read mentions an auxiliary name.
use Rattle.std.proofs.Common.{ℕ, zero, suc, ◌≡◌, List, [], ◌∷◌, ◌++◌, take, Option, Some, None, refl}
use Rattle.std.specs.Prelude.{option_and_then, slice_get}
use Rattle.lk_tree.specs.Tree.{Name, name_discrete}
use Rattle.lk_tree.specs.declared.rule.Rule.{Rule}
use Rattle.lk_rulebook.specs.Place.{Entry, Kind, a_type, Ctor, BlockType, Block, BlockRecursor}
use Rattle.lk_rulebook.specs.Units.{Body, as_axiom, as_def, as_thm, as_opaque, as_quot, LibraryUnit, of_decl, of_block, Library, Members, members_of, kind_of, type_entries, ctor_entries, all_ctor_entries, rec_members, Trees, trees_of, type_trees, ctor_trees, all_ctor_trees, rec_trees, given_by, first_of_two, at_unit, flaw_of, flawless, first_giving, place_of}
use Rattle.lk_inductive.specs.NestedRelation.{Clear, ClearCtors, ClearTypes, IsClear}
use Rattle.lk_verdict.specs.GoodUnit.{AllClear, IsClearUnit, IsClearLibrary}

clear_split : (xs ys : Trees) → AllClear (xs ++ ys) → AllClear xs × AllClear ys
clear_split [] ys h = (tt, h)
clear_split (x ∷ xs) ys h = let r : AllClear xs × AllClear ys = clear_split xs ys h.1 in ((h.0, r.0), r.1)

clear_ctors : (cs : List Ctor) → AllClear (ctor_trees cs) → ClearCtors cs
clear_ctors [] h = tt
clear_ctors (c ∷ cs) h = (h.0, clear_ctors cs h.1)

clear_types : (ts : List BlockType) → AllClear (type_trees ts) → AllClear (all_ctor_trees ts) → ClearTypes ts
clear_types [] h k = tt
clear_types (t ∷ ts) h k =
    let r : AllClear (ctor_trees t.ctors) × AllClear (all_ctor_trees ts) = clear_split (ctor_trees t.ctors) (all_ctor_trees ts) k in
    ((h.0, clear_ctors t.ctors r.0), clear_types ts h.1 r.1)

pub block_clear : (b : Block) (rs : List BlockRecursor) → AllClear (trees_of (of_block b rs)) → ClearTypes b.types
block_clear b rs h =
    let x : AllClear (type_trees b.types) × AllClear (all_ctor_trees b.types ++ rec_trees rs) = clear_split (type_trees b.types) (all_ctor_trees b.types ++ rec_trees rs) h in
    let y : AllClear (all_ctor_trees b.types) × AllClear (rec_trees rs) = clear_split (all_ctor_trees b.types) (rec_trees rs) x.1 in
    clear_types b.types x.0 y.0

-- a type among the members is clear, and so is its block
abbrev KindClear : Kind → Type 0
KindClear (a_type b t) = (Clear t.type × ClearCtors t.ctors) × ClearTypes b.types
KindClear _ = Unit {0}

abbrev MembersClear : Members → Type 0
MembersClear [] = Unit {0}
MembersClear (m ∷ ms) = KindClear m.1.kind × MembersClear ms

clear_append : (xs ys : Members) → MembersClear xs → MembersClear ys → MembersClear (xs ++ ys)
clear_append [] ys h k = k
clear_append (x ∷ xs) ys h k = (h.0, clear_append xs ys h.1 k)

types_clear : (b : Block) (ts : List BlockType) → ClearTypes b.types → ClearTypes ts → MembersClear (type_entries b ts)
types_clear b [] all h = tt
types_clear b (t ∷ ts) all h = ((h.0, all), types_clear b ts all h.1)

ctors_clear : (b : Block) (t : BlockType) (cs : List Ctor) → MembersClear (ctor_entries b t cs)
ctors_clear b t [] = tt
ctors_clear b t (c ∷ cs) = (tt, ctors_clear b t cs)

all_ctors_clear : (b : Block) (ts : List BlockType) → MembersClear (all_ctor_entries b ts)
all_ctors_clear b [] = tt
all_ctors_clear b (t ∷ ts) = clear_append (ctor_entries b t t.ctors) (all_ctor_entries b ts) (ctors_clear b t t.ctors) (all_ctors_clear b ts)

recs_clear : (rs : List BlockRecursor) → MembersClear (rec_members rs)
recs_clear [] = tt
recs_clear (r ∷ rs) = (tt, recs_clear rs)

body_clear : (b : Body) → KindClear (kind_of b)
body_clear as_axiom = tt
body_clear (as_def h v) = tt
body_clear (as_thm v) = tt
body_clear (as_opaque v) = tt
body_clear as_quot = tt

members_clear : (u : LibraryUnit) → AllClear (trees_of u) → MembersClear (members_of u)
members_clear (of_decl d) h = (body_clear d.body, tt)
members_clear (of_block b rs) h =
    let s : ClearTypes b.types = block_clear b rs h in
    clear_append (type_entries b b.types) (all_ctor_entries b b.types ++ rec_members rs) (types_clear b b.types s s)
    (clear_append (all_ctor_entries b b.types) (rec_members rs) (all_ctors_clear b b.types) (recs_clear rs))

Some_is : {a b : Entry} → Some a ≡ Some b → a ≡ b
Some_is e = cc

given_clear : (ms : Members) (c : Name) (e : Entry) → MembersClear ms → given_by ms c ≡ Some e → KindClear e.kind
given_clear [] c e h g = absurd cc
given_clear (m ∷ ms) c e h g = go (given_clear ms c e h.1) (name_discrete m.0 c) g
  where
    go : (given_by ms c ≡ Some e → KindClear e.kind) → (d : Dec (m.0 ≡ c)) → elim d as (λ y. Option Entry) [ yes x ↦ Some m.1 | no f ↦ given_by ms c ] ≡ Some e → KindClear e.kind
    go f (yes x) k = let i : m.1 ≡ e = Some_is k in rw (← i) h.0
    go f (no x) k = f k

found_clear : (i : ℕ) (us : Library) (c : Name) (e : Entry) → IsClearLibrary us → option_and_then flawless (first_giving i us c) ≡ Some e → KindClear e.kind
found_clear i [] c e h m = absurd cc
found_clear i (u ∷ us) c e h m = go (given_by (members_of u) c) refl (found_clear (suc i) us c e h.1) m
  where
    unflawed : (x : Entry) (o : Option Rule) → elim o as (λ y. Option Entry) [ None ↦ Some x | Some r ↦ None ] ≡ Some e → x ≡ e
    unflawed x None k = Some_is k
    unflawed x (Some r) k = absurd cc

    go : (g : Option Entry) → given_by (members_of u) c ≡ g → (option_and_then flawless (first_giving (suc i) us c) ≡ Some e → KindClear e.kind) →
        option_and_then flawless (first_of_two (at_unit i u g) (first_giving (suc i) us c)) ≡ Some e → KindClear e.kind
    go (Some x) j r k = given_clear (members_of u) c e (members_clear u h.0.trees) (let q : x ≡ e = unflawed x (flaw_of u) k in rw (← q) j)
    go None j r k = r k

clear_take : (n : ℕ) (us : Library) → IsClearLibrary us → IsClearLibrary (take n us)
clear_take zero us h = tt
clear_take (suc n) [] h = tt
clear_take (suc n) (u ∷ us) h = (h.0, clear_take n us h.1)

pub all_clear : (us : Library) (n : ℕ) → IsClearLibrary us → IsClear (place_of us n [])
all_clear us n h c e b t m k = let x : KindClear e.kind = found_clear 0 (take n us) c e (clear_take n us h) m in rw k at x

pub clear_at : (us : Library) (n : ℕ) (u : LibraryUnit) → IsClearLibrary us → slice_get us n ≡ Some u → IsClearUnit u
clear_at [] n u h e = absurd cc
clear_at (x ∷ us) zero u h e = let q : x ≡ u = unit_is e in rw (← q) h.0
  where
    unit_is : {a b : LibraryUnit} → Some a ≡ Some b → a ≡ b
    unit_is e = cc
clear_at (x ∷ us) (suc n) u h e = clear_at us n u h.1 e
