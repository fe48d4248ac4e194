-- What a closed set of names gives is over it.
use Rattle.std.proofs.Common.{ℕ, ◌≡◌, List, [], ◌∷◌, ◌++◌, take, Some, None, Option, refl, sym, subst, arith, Bool, true, false, if◌then◌else◌, ◌∙◌}
use Rattle.std.specs.Prelude.{option_and_then}
use Rattle.lk_tree.specs.Tree.{Name, name_discrete}
use Rattle.lk_tree.specs.declared.rule.Rule.{Rule}
use Rattle.lk_tree.specs.declared.rule.Rule.TheVariants.{LooseVariable}
use Rattle.lk_rulebook.specs.Place.{Entry, Block, BlockType, Ctor, RecRule, BlockRecursor}
use Rattle.lk_rulebook.specs.Units.{Body, as_axiom, as_def, as_thm, as_opaque, as_quot, kind_of, LibraryUnit, of_decl, of_block, Library, Members, members_of, type_entries, ctor_entries, all_ctor_entries, rec_members, Trees, body_trees, type_trees, ctor_trees, all_ctor_trees, rule_trees, rec_trees, Found, given_by, first_of_two, at_partial, flaw_of, flawless, first_giving, place_of, trees_of, all_bound}
use Rattle.lk_reach.proofs.Found.{IsFrom, found_from, taken}
use Rattle.lk_closure.proofs.Names.{EntryOver, KindOver, CtorsOver, TypesOver, RulesOver, IsClosed}
use Rattle.lk_closure.proofs.Over.{TreesOver, NamesOver, RulesFor, RecsFor, UnitOver, IsClosureOver}

abbrev pub MembersOver : (Name → Type 0) → Members → Type 0
MembersOver P [] = Unit {0}
MembersOver P (m ∷ ms) = EntryOver P m.1 × MembersOver P ms

pub members_append : (P : Name → Type 0) (xs ys : Members) → MembersOver P xs → MembersOver P ys → MembersOver P (xs ++ ys)
members_append P [] ys h i = i
members_append P (x ∷ xs) ys h i = (h.0, members_append P xs ys h.1 i)

pub given_over : (P : Name → Type 0) (ms : Members) (c : Name) (e : Entry) → MembersOver P ms → given_by ms c ≡ Some e → EntryOver P e
given_over P [] c e h k = absurd cc
given_over P (m ∷ ms) c e h k = go (given_over P ms c e h.1) (name_discrete m.0 c) k
  where
    go : (given_by ms c ≡ Some e → EntryOver P e) → (d : Dec (m.0 ≡ c)) → elim d as (λ y. Option Entry) [ yes x ↦ Some m.1 | no f ↦ given_by ms c ] ≡ Some e → EntryOver P e
    go r (yes x) j = let i : m.1 ≡ e = cc in subst (EntryOver P) i h.0
    go r (no f) j = r j

pub trees_split : (P : Name → Type 0) (xs ys : Trees) → TreesOver P (xs ++ ys) → TreesOver P xs × TreesOver P ys
trees_split P [] ys h = (tt, h)
trees_split P (x ∷ xs) ys h = let r : TreesOver P xs × TreesOver P ys = trees_split P xs ys h.1 in ((h.0, r.0), r.1)

names_split : (P : Name → Type 0) (xs ys : Members) → NamesOver P (xs ++ ys) → NamesOver P xs × NamesOver P ys
names_split P [] ys h = (tt, h)
names_split P (x ∷ xs) ys h = let r : NamesOver P xs × NamesOver P ys = names_split P xs ys h.1 in ((h.0, r.0), r.1)

pub ctors_over : (P : Name → Type 0) (b : Block) (t : BlockType) (cs : List Ctor) → TreesOver P (ctor_trees cs) → NamesOver P (ctor_entries b t cs) → CtorsOver P cs
ctors_over P b t [] h k = tt
ctors_over P b t (c ∷ cs) h k = ((k.0, h.0), ctors_over P b t cs h.1 k.1)

pub types_over : (P : Name → Type 0) (b : Block) (ts : List BlockType) → TreesOver P (type_trees ts) → TreesOver P (all_ctor_trees ts) → NamesOver P (type_entries b ts) → NamesOver P (all_ctor_entries b ts) → TypesOver P ts
types_over P b [] h k n m = tt
types_over P b (t ∷ ts) h k n m =
    let r : TreesOver P (ctor_trees t.ctors) × TreesOver P (all_ctor_trees ts) = trees_split P (ctor_trees t.ctors) (all_ctor_trees ts) k in
    let s : NamesOver P (ctor_entries b t t.ctors) × NamesOver P (all_ctor_entries b ts) = names_split P (ctor_entries b t t.ctors) (all_ctor_entries b ts) m in
    ((n.0, (h.0, ctors_over P b t t.ctors r.0 s.0)), types_over P b ts h.1 r.1 n.1 s.1)

pub type_entries_over : (P : Name → Type 0) (b : Block) (ts : List BlockType) → TypesOver P b.types → TypesOver P ts → MembersOver P (type_entries b ts)
type_entries_over P b [] o h = tt
type_entries_over P b (t ∷ ts) o h = ((h.0.1.0, (h.0, o)), type_entries_over P b ts o h.1)

ctor_entries_over : (P : Name → Type 0) (b : Block) (t : BlockType) (cs : List Ctor) → CtorsOver P cs → MembersOver P (ctor_entries b t cs)
ctor_entries_over P b t [] h = tt
ctor_entries_over P b t (c ∷ cs) h = ((h.0.1, tt), ctor_entries_over P b t cs h.1)

pub all_ctor_entries_over : (P : Name → Type 0) (b : Block) (ts : List BlockType) → TypesOver P ts → MembersOver P (all_ctor_entries b ts)
all_ctor_entries_over P b [] h = tt
all_ctor_entries_over P b (t ∷ ts) h =
    members_append P (ctor_entries b t t.ctors) (all_ctor_entries b ts) (ctor_entries_over P b t t.ctors h.0.1.1) (all_ctor_entries_over P b ts h.1)

rules_over : (P : Name → Type 0) (ps : List Name) (rs : List RecRule) → TreesOver P (rule_trees ps rs) → RulesFor P rs → RulesOver P rs
rules_over P ps [] h k = tt
rules_over P ps (r ∷ rs) h k = ((k.0, h.0), rules_over P ps rs h.1 k.1)

rec_members_over : (P : Name → Type 0) (rs : List BlockRecursor) → TreesOver P (rec_trees rs) → RecsFor P rs → MembersOver P (rec_members rs)
rec_members_over P [] h k = tt
rec_members_over P (r ∷ rs) h k =
    let s : TreesOver P (rule_trees r.levels r.recursor.rules) × TreesOver P (rec_trees rs) = trees_split P (rule_trees r.levels r.recursor.rules) (rec_trees rs) h.1 in
    ((h.0, rules_over P r.levels r.recursor.rules s.0 k.0), rec_members_over P rs s.1 k.1)

body_over : (P : Name → Type 0) (ps : List Name) (b : Body) → TreesOver P (body_trees ps b) → KindOver P (kind_of b)
body_over P ps as_axiom h = tt
body_over P ps (as_def i v) h = h.0
body_over P ps (as_thm v) h = h.0
body_over P ps (as_opaque v) h = tt
body_over P ps as_quot h = tt

pub block_over : (P : Name → Type 0) (b : Block) (rs : List BlockRecursor) → all_bound (trees_of (of_block b rs)) ≡ true → UnitOver P (of_block b rs) → TypesOver P b.types
block_over P b rs ab h =
    let x : TreesOver P (type_trees b.types) × TreesOver P (all_ctor_trees b.types ++ rec_trees rs) = trees_split P (type_trees b.types) (all_ctor_trees b.types ++ rec_trees rs) (h.trees ab) in
    let y : TreesOver P (all_ctor_trees b.types) × TreesOver P (rec_trees rs) = trees_split P (all_ctor_trees b.types) (rec_trees rs) x.1 in
    let n : NamesOver P (type_entries b b.types) × NamesOver P (all_ctor_entries b b.types ++ rec_members rs) = names_split P (type_entries b b.types) (all_ctor_entries b b.types ++ rec_members rs) h.names in
    let m : NamesOver P (all_ctor_entries b b.types) × NamesOver P (rec_members rs) = names_split P (all_ctor_entries b b.types) (rec_members rs) n.1 in
    types_over P b b.types x.0 y.0 n.0 m.0

pub unit_over : (P : Name → Type 0) (u : LibraryUnit) → all_bound (trees_of u) ≡ true → UnitOver P u → MembersOver P (members_of u)
unit_over P (of_decl d) ab h = let t : TreesOver P (trees_of (of_decl d)) = h.trees ab in ((t.0, body_over P d.levels d.body t.1), tt)
unit_over P (of_block b rs) ab h =
    let x : TreesOver P (type_trees b.types) × TreesOver P (all_ctor_trees b.types ++ rec_trees rs) = trees_split P (type_trees b.types) (all_ctor_trees b.types ++ rec_trees rs) (h.trees ab) in
    let y : TreesOver P (all_ctor_trees b.types) × TreesOver P (rec_trees rs) = trees_split P (all_ctor_trees b.types) (rec_trees rs) x.1 in
    let t : TypesOver P b.types = block_over P b rs ab h in
    members_append P (type_entries b b.types) (all_ctor_entries b b.types ++ rec_members rs) (type_entries_over P b b.types t t)
    (members_append P (all_ctor_entries b b.types) (rec_members rs) (all_ctor_entries_over P b b.types t) (rec_members_over P rs y.1 h.rules))

pub first_test : (b : Bool) (r : Rule) (o : Option Rule) → (if b then o else Some r) ≡ None → (b ≡ true) × (o ≡ None)
first_test true r o h = (refl, h)
first_test false r o h = absurd cc

pub flawless_bound : (u : LibraryUnit) → flaw_of u ≡ None → all_bound (trees_of u) ≡ true
flawless_bound u h = (first_test (all_bound (trees_of u)) LooseVariable _ h).0

-- with names partial that are over the set
pub closure_is_closed : (us : Library) (n : ℕ) (P : Name → Type 0) (keep : ℕ → Bool) (partial : Members) → IsClosureOver us n P keep → MembersOver P partial → IsClosed P (place_of us n partial)
closure_is_closed us n P keep partial h oh c e p m = go (given_by partial c) refl (first_giving 0 (take n us) c) refl m
  where
    unflawed : (x : Entry) (o : Option Rule) → elim o as (λ y. Option Entry) [ None ↦ Some x | Some r ↦ None ] ≡ Some e → (x ≡ e) × (o ≡ None)
    unflawed x None k = (let i : x ≡ e = cc in i, refl)
    unflawed x (Some r) k = absurd cc

    found : (o : Option Found) → first_giving 0 (take n us) c ≡ o → option_and_then flawless o ≡ Some e → EntryOver P e
    found None j k = absurd cc
    found (Some f) j k =
        let t : IsFrom 0 (take n us) c f = found_from 0 (take n us) c f j in
        let z : f.unit ≡ t.number = omega (arith, t.is_at) in
        let yes_ : keep t.number ≡ true = subst (λ x. keep x ≡ true) z (h.given c f p j) in
        let u : UnitOver P t.unit = h.units t.number t.unit yes_ (taken n t.number us t.unit t.stands) in
        let no_flaw : (f.entry ≡ e) × (f.flaw ≡ None) = unflawed f.entry f.flaw k in
        let ab : all_bound (trees_of t.unit) ≡ true = flawless_bound t.unit (sym t.flaw ∙ no_flaw.1) in
        subst (EntryOver P) no_flaw.0 (given_over P (members_of t.unit) c f.entry (unit_over P t.unit ab u) t.gives)

    go : (g : Option Entry) → given_by partial c ≡ g → (o : Option Found) → first_giving 0 (take n us) c ≡ o → option_and_then flawless (first_of_two (at_partial n g) o) ≡ Some e → EntryOver P e
    go (Some x) j o i k = let s : x ≡ e = cc in subst (EntryOver P) s (given_over P partial c x oh j)
    go None j o i k = found o i k
