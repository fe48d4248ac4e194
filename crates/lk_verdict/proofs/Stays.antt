-- What is derived at a unit's place is derived at later places.
use Rattle.std.proofs.Common.{ℕ, suc, ◌≡◌, ◌≤◌, ◌<◌, ◌⊎◌, inl, inr, List, [], ◌∷◌, ◌++◌, take, Option, Some, None, refl, sym, ap, ◌∙◌, arith}
use Rattle.std.specs.Prelude.{option_and_then, slice_get}
use Rattle.lk_tree.specs.Tree.{Name, name_discrete, Level, Tree}
use Rattle.lk_rulebook.specs.Place.{Place, Entry, Block, BlockRecursor, a_rec}
use Rattle.lk_rulebook.specs.Quotients.{IsQuot, HasEq, Quotient, the_type, the_mk, the_lift, the_ind, RestsOn}
use Rattle.lk_rulebook.specs.Units.{Body, as_axiom, as_def, as_thm, as_opaque, as_quot, Decl, LibraryUnit, of_block, Library, Members, members_of, type_entries, all_ctor_entries, rec_members, trees_of, Found, flawless, given_by, first_giving, place_of}
use Rattle.lk_rulebook.specs.Scan.{AreNew, IsScanned}
use Rattle.lk_rulebook.proofs.Scans.{no_flaw, scanned_stated}
use Rattle.lk_rulebook.specs.Derived.{IsOf, BodyDerived, DeclDerived}
use Rattle.lk_questions.proofs.Places.{prefix_gives, found_entry}
use Rattle.lk_inductive.specs.Grows.{IsWithin, RulesCome, Completes}
use Rattle.lk_inductive.specs.Block.{Shape}
use Rattle.lk_inductive.specs.Compare.{rec_entries}
use Rattle.lk_inductive.specs.Whole.{partial_types, partial_members, BlockDerived}
use Rattle.lk_inductive.proofs.Partials.{first_entry, given_append}
use Rattle.lk_inductive.proofs.More.{more_type, more_sort, more_equal, more_nat, more_laws}
use Rattle.lk_inductive.proofs.MoreBlocks.{more_good, block_after}

-- each name that w gives means the same at w'
abbrev pub Gives : Place → Place → Type 0
Gives w w' = (c : Name) (e : Entry) → w.means c ≡ Some e → w'.means c ≡ Some e

pub later_gives : (us : Library) (n m : ℕ) → n ≤ m → Gives (place_of us n []) (place_of us m [])
later_gives us n m l c e h =
    let f : (f : Found) × (first_giving 0 (take n us) c ≡ Some f) = found_entry (first_giving 0 (take n us) c) e h in
    ap (option_and_then flawless) (prefix_gives 0 n m us c f.0 l f.1) ∙ (ap (option_and_then flawless) (sym f.1) ∙ h)

within : (w w' : Place) → Gives w w' → IsWithin w w'
within w w' g c e h = inl (g c e h)

more_quot : (w w' : Place) → Gives w w' → (c : Name) → IsQuot w c → IsQuot w' c
more_quot w w' g c h = record { entry = h.entry; given = g c h.entry h.given; kind = h.kind }

more_eq : (w w' : Place) → Gives w w' → HasEq w → HasEq w'
more_eq w w' g h = record {
  entry = h.entry;
  block = h.block;
  inductive = h.inductive;
  ctor = h.ctor;
  level = h.level;
  ctor_level = h.ctor_level;
  given = g _ h.entry h.given;
  kind = h.kind;
  levels = h.levels;
  type = h.type;
  one_ctor = h.one_ctor;
  ctor_is = h.ctor_is;
}

more_rests : (w w' : Place) → Gives w w' → (q : Quotient) → RestsOn w q → RestsOn w' q
more_rests w w' g the_type h = tt
more_rests w w' g the_mk h = more_quot w w' g _ h
more_rests w w' g the_lift h = (more_quot w w' g _ h.0, more_eq w w' g h.1)
more_rests w w' g the_ind h = (more_quot w w' g _ h.0, more_quot w w' g _ h.1)

more_of : (w w' : Place) → Gives w w' → (v t : Tree) → IsOf w v t → IsOf w' v t
more_of w w' g v t h = record { inferred = h.inferred; types = more_type w w' (within w w' g) h.types; equals = more_equal w w' (within w w' g) h.equals }

more_body : (w w' : Place) → Gives w w' → (d : Decl) (l : Level) (b : Body) → BodyDerived w d l b → BodyDerived w' d l b
more_body w w' g d l as_axiom h = tt
more_body w w' g d l (as_def i v) h =
    let j : IsWithin w w' = within w w' g in
    (more_of w w' g v d.type h.0, λ op e k. let m = h.1 op e k in (more_nat w w' j m.0, more_laws w w' j m.1))
more_body w w' g d l (as_thm v) h = (more_of w w' g v d.type h.0, h.1)
more_body w w' g d l (as_opaque v) h = more_of w w' g v d.type h
more_body w w' g d l as_quot h = record { constant = h.constant; name_is = h.name_is; type_is = h.type_is; rests = more_rests w w' g h.constant h.rests }

pub declaration_stays : (us : Library) (n m : ℕ) (d : Decl) → n ≤ m → DeclDerived (place_of us n []) d → DeclDerived (place_of us m []) d
declaration_stays us n m d l h =
    let w : Place = place_of us n [] in
    let w' : Place = place_of us m [] in
    let g : Gives w w' = later_gives us n m l in
    record { level = h.level; sorted = more_sort w w' (within w w' g) h.sorted; body = more_body w w' g d h.level d.body h.body }

-- what was partial is what the unit gives
Some_is : {a b : Entry} → Some a ≡ Some b → a ≡ b
Some_is e = cc

completes_recs : (rs : List BlockRecursor) → Completes (rec_entries rs) (rec_members rs)
completes_recs [] c e g = absurd cc
completes_recs (r ∷ rs) c e g = go (completes_recs rs c e) (name_discrete r.name c) g
  where
    full : Entry
    full = record { levels = r.levels; type = r.type; kind = a_rec r.recursor }

    go : (given_by (rec_entries rs) c ≡ Some e → (given_by (rec_members rs) c ≡ Some e) ⊎ ((e' : Entry) × (given_by (rec_members rs) c ≡ Some e') × RulesCome e e')) → (d : Dec (r.name ≡ c)) →
        elim d as (λ y. Option Entry) [ yes x ↦ Some (record { levels = r.levels; type = r.type; kind = a_rec (record r.recursor { rules = [] }) }) | no f ↦ given_by (rec_entries rs) c ] ≡ Some e →
        (elim d as (λ y. Option Entry) [ yes x ↦ Some full | no f ↦ given_by (rec_members rs) c ] ≡ Some e)
        ⊎ ((e' : Entry) × (elim d as (λ y. Option Entry) [ yes x ↦ Some full | no f ↦ given_by (rec_members rs) c ] ≡ Some e') × RulesCome e e')
    go f (yes x) k =
        let i : record { levels = r.levels; type = r.type; kind = a_rec (record r.recursor { rules = [] }) } ≡ e = Some_is k in
        inr (full, refl, rw (← i) (record { levels = refl; type = refl; recursor = record r.recursor { rules = [] }; kind = refl; no_rules = refl; rules = r.recursor.rules; kind_then = refl }))
    go f (no x) k = f k

completes_after : (xs ys zs : Members) → Completes ys zs → Completes (xs ++ ys) (xs ++ zs)
completes_after xs ys zs h c e g = go (given_by xs c) refl (sym (given_append xs ys c) ∙ g)
  where
    at : (x : Option Entry) (o : Option Entry) → given_by xs c ≡ x → given_by zs c ≡ o → given_by (xs ++ zs) c ≡ first_entry x o
    at x o i j = given_append xs zs c ∙ (ap (λ y. first_entry y (given_by zs c)) i ∙ ap (first_entry x) j)

    go : (x : Option Entry) → given_by xs c ≡ x → first_entry (given_by xs c) (given_by ys c) ≡ Some e →
        (given_by (xs ++ zs) c ≡ Some e) ⊎ ((e' : Entry) × (given_by (xs ++ zs) c ≡ Some e') × RulesCome e e')
    go (Some x) i k = let q : Some x ≡ Some e = ap (λ y. first_entry y (given_by ys c)) (sym i) ∙ k in inl (at (Some x) (given_by zs c) i refl ∙ q)
    go None i k =
        let q : given_by ys c ≡ Some e = ap (λ y. first_entry y (given_by ys c)) (sym i) ∙ k in
        elim (h c e q) [ inl y ↦ inl (at None (Some e) i y) | inr y ↦ inr (y.0, at None (Some y.0) i y.1, y.2) ]

pub completes_block : (b : Block) (rs : List BlockRecursor) → Completes (partial_types b ++ partial_members b rs) (members_of (of_block b rs))
completes_block b rs =
    completes_after (type_entries b b.types) (all_ctor_entries b b.types ++ rec_entries rs) (all_ctor_entries b b.types ++ rec_members rs)
    (completes_after (all_ctor_entries b b.types) (rec_entries rs) (rec_members rs) (completes_recs rs))

pub new_given : (us : Library) (n : ℕ) (ms : Members) (c : Name) (e : Entry) → AreNew us n ms → given_by ms c ≡ Some e → first_giving 0 (take n us) c ≡ None
new_given us n [] c e h g = absurd cc
new_given us n (m ∷ ms) c e h g = go (new_given us n ms c e h.2) (name_discrete m.0 c) g
  where
    go : (given_by ms c ≡ Some e → first_giving 0 (take n us) c ≡ None) → (d : Dec (m.0 ≡ c)) → elim d as (λ y. Option Entry) [ yes x ↦ Some m.1 | no f ↦ given_by ms c ] ≡ Some e → first_giving 0 (take n us) c ≡ None
    go f (yes x) k = rw (← x) h.0
    go f (no x) k = f k

pub block_stays : (us : Library) (n m : ℕ) (b : Block) (rs : List BlockRecursor) (s : Shape) → n < m → slice_get us n ≡ Some (of_block b rs) → IsScanned us n (of_block b rs) →
    BlockDerived (place_of us n) b rs s → BlockDerived (λ h. place_of us m []) b rs s
block_stays us n m b rs s l at sc g =
    let u : LibraryUnit = of_block b rs in
    let next : BlockDerived (λ h. place_of us (suc n) []) b rs s =
    block_after us n u b rs s at (no_flaw u (scanned_stated (trees_of u) sc.trees)) (completes_block b rs) (λ c e k. new_given us n (members_of u) c e sc.names k) g in
    let i : IsWithin (place_of us (suc n) []) (place_of us m []) = within (place_of us (suc n) []) (place_of us m []) (later_gives us (suc n) m (omega arith)) in
    more_good (λ h. place_of us (suc n) []) (λ h. place_of us m []) b rs s i i i next
