-- The operations on numbers that a library gives have their laws, where the units that give them are good.
use Rattle.std.proofs.Common.{ℕ, zero, suc, ◌≡◌, ◌<◌, ◌≤◌, ◌⊎◌, inl, inr, Bool, true, false, List, [], ◌∷◌, ◌++◌, take, Option, Some, None, refl, sym, ap, subst, ◌∙◌, arith}
use Rattle.std.specs.Prelude.{option_and_then, slice_get}
use Rattle.lk_tree.specs.Tree.{Name, name_discrete, Part, Tree}
use Rattle.lk_tree.specs.Operations.{Op, succ, add, sub, mul, beq, ble, pow}
use Rattle.lk_tree.specs.declared.rule.Rule.{Rule}
use Rattle.lk_rulebook.specs.Place.{Place, Entry, Kind, a_def, Hint, Ctor, BlockType, Block, BlockRecursor}
use Rattle.lk_rulebook.specs.Names.{op_name}
use Rattle.lk_rulebook.specs.NumberLaws.{has_laws, laws_of, stated_by}
use Rattle.lk_rulebook.specs.Literals.{by_def, may_give, CanBeStated, laws_in}
use Rattle.lk_rulebook.specs.Lawful.{IsLawfulPlace}
use Rattle.lk_rulebook.specs.Rules.{MeetsLaws, meets, AllHold, no_more_laws}
use Rattle.lk_rulebook.specs.Units.{Body, as_axiom, as_def, as_thm, as_opaque, as_quot, Decl, LibraryUnit, of_decl, of_block, Library, Members, members_of, kind_of, type_entries, ctor_entries, all_ctor_entries, rec_members, rec_entries, partial_types, partial_members, Found, given_by, first_of_two, at_unit, at_partial, flaw_of, flawless, first_giving, place_of}
use Rattle.lk_rulebook.specs.Scan.{AreNew}
use Rattle.lk_rulebook.specs.Derived.{BodyDerived, DeclDerived}
use Rattle.lk_questions.proofs.Places.{prefix_gives, found_entry}
use Rattle.lk_inductive.specs.Grows.{IsWithin}
use Rattle.lk_inductive.specs.Nested.{Aux, Setting, bare_entries}
use Rattle.lk_inductive.specs.Restore.{Original}
use Rattle.lk_inductive.specs.NestedRelation.{IsMarked, AuxTypes, aux_more}
use Rattle.lk_inductive.proofs.More.{more_laws}
use Rattle.lk_inductive.proofs.Partials.{half_within}
use Rattle.lk_verdict.specs.Operations.{GivesOperation}
use Rattle.lk_verdict.proofs.NestedStays.{none_marked}
use Rattle.lk_verdict.specs.GoodUnit.{UnitDerived, declaration, IsGoodUnit, IsClearLibrary}
use Rattle.lk_claims.proofs.Pieces.{Some_inj}

-- an operation without laws has none to meet
can_state : (w : Place) (op : Op) → has_laws op ≡ false → CanBeStated w (stated_by op)
can_state w mul e = absurd cc
can_state w pow e = absurd cc
can_state w _ e = tt

none_of : (w : Place) (op : Op) → has_laws op ≡ false → (v : Tree) → AllHold w (laws_of op v)
none_of w add e v = absurd cc
none_of w sub e v = absurd cc
none_of w mul e v = absurd cc
none_of w pow e v = absurd cc
none_of w beq e v = absurd cc
none_of w ble e v = absurd cc
none_of w _ e v = no_more_laws

none_in : (w : Place) (op : Op) → has_laws op ≡ false → (k : Kind) → AllHold w (laws_in op k)
none_in w op e (a_def h v) = none_of w op e v
none_in w op e _ = no_more_laws

no_laws : (w : Place) (op : Op) (g : Entry) → has_laws op ≡ false → MeetsLaws w op g
no_laws w op g e = meets (λ t. absurd cc) (can_state w op e) (none_in w op e g.kind)

-- one that has laws is given by a def
gives_def : (op : Op) (k : Kind) → has_laws op ≡ true → may_give op k ≡ true → by_def k ≡ true
gives_def succ k e m = absurd cc
gives_def _ k e m = m

true_or_not : (b : Bool) → (b ≡ true) ⊎ (b ≡ false)
true_or_not true = inl refl
true_or_not false = inr refl

-- each member has the property
abbrev pub AllMembers : (Name → Entry → Type 0) → Members → Type 0
AllMembers P [] = Unit {0}
AllMembers P (m ∷ ms) = P m.0 m.1 × AllMembers P ms

given_member : (P : Name → Entry → Type 0) (ms : Members) (c : Name) (e : Entry) → AllMembers P ms → given_by ms c ≡ Some e → P c e
given_member P [] c e h g = absurd cc
given_member P (m ∷ ms) c e h g = go (given_member P ms c e h.1) (name_discrete m.0 c) g
  where
    go : (given_by ms c ≡ Some e → P c e) → (d : Dec (m.0 ≡ c)) → elim d as (λ y. Option Entry) [ yes x ↦ Some m.1 | no f ↦ given_by ms c ] ≡ Some e → P c e
    go f (yes x) k = subst (λ y. P y e) x (subst (λ y. P m.0 y) (Some_inj k) h.0)
    go f (no x) k = f k

all_append : (P : Name → Entry → Type 0) (xs ys : Members) → AllMembers P xs → AllMembers P ys → AllMembers P (xs ++ ys)
all_append P [] ys h k = k
all_append P (x ∷ xs) ys h k = (h.0, all_append P xs ys h.1 k)

-- no earlier unit gives the name, and it is no def: so is what is partial while unit n is checked
abbrev pub IsFresh : Library → ℕ → Name → Entry → Type 0
IsFresh us n c e = (first_giving 0 (take n us) c ≡ None) × (by_def e.kind ≡ false)

module _ (us : Library) (n : ℕ) (h : Members) (fresh : AllMembers (IsFresh us n) h) where
  absent : (c : Name) (e : Entry) → (place_of us n []).means c ≡ Some e → (g : Option Entry) → given_by h c ≡ g → g ≡ None
  absent c e m None i = refl
  absent c e m (Some x) i =
      let new : first_giving 0 (take n us) c ≡ None = (given_member (IsFresh us n) h c x fresh i).0 in
      let f : (f : Found) × (first_giving 0 (take n us) c ≡ Some f) = found_entry (first_giving 0 (take n us) c) e m in
      let f_is : first_giving 0 (take n us) c ≡ Some f.0 = f.1 in
      absurd cc

  within_half : IsWithin (place_of us n []) (place_of us n h)
  within_half = half_within us n [] h (λ c e m none. absent c e m (given_by h c) refl)

  -- where the library's operations have their laws, they have them among fresh members too
  pub lawful_half : IsLawfulPlace (place_of us n []) → IsLawfulPlace (place_of us n h)
  lawful_half lawful op o = elim (true_or_not (has_laws op)) [
    | inr other ↦ no_laws (place_of us n h) op o.entry other
    | inl has ↦ go has (given_by h (op_name op)) refl o.given
  ]
    where
      go : has_laws op ≡ true → (g : Option Entry) → given_by h (op_name op) ≡ g →
          option_and_then flawless (first_of_two (at_partial n g) (first_giving 0 (take n us) (op_name op))) ≡ Some o.entry → MeetsLaws (place_of us n h) op o.entry
      go has (Some x) i m =
          let same : x ≡ o.entry = Some_inj m in
          let no_def : by_def x.kind ≡ false = (given_member (IsFresh us n) h (op_name op) x fresh i).1 in
          let def : by_def x.kind ≡ true = subst (λ y. by_def y.kind ≡ true) (sym same) (gives_def op o.entry.kind has o.kind) in
          absurd cc
      go has None i m = more_laws (place_of us n []) (place_of us n h) within_half (lawful op (record { entry = o.entry; given = m; kind = o.kind }))

-- the unit before unit n that gives the name first, where the first unit has number i
record IsGiver (i : ℕ) (us : Library) (n : ℕ) (c : Name) (e : Entry) : Type 0 where
  number : ℕ
  unit : LibraryUnit
  below : number < n
  at : slice_get us number ≡ Some unit
  first : first_giving i (take number us) c ≡ None
  fine : flaw_of unit ≡ None
  gives : given_by (members_of unit) c ≡ Some e

unflawed : (x e : Entry) (o : Option Rule) → elim o as (λ y. Option Entry) [ None ↦ Some x | Some r ↦ None ] ≡ Some e → (o ≡ None) × (x ≡ e)
unflawed x e None k = (refl, Some_inj k)
unflawed x e (Some r) k = absurd cc

giver : (i n : ℕ) (us : Library) (c : Name) (e : Entry) → option_and_then flawless (first_giving i (take n us) c) ≡ Some e → IsGiver i us n c e
giver i zero us c e h = absurd cc
giver i (suc n) [] c e h = absurd cc
giver i (suc n) (u ∷ us) c e h = go (given_by (members_of u) c) refl (giver (suc i) n us c e) h
  where
    go : (g : Option Entry) → given_by (members_of u) c ≡ g → (option_and_then flawless (first_giving (suc i) (take n us) c) ≡ Some e → IsGiver (suc i) us n c e) →
        option_and_then flawless (first_of_two (at_unit i u g) (first_giving (suc i) (take n us) c)) ≡ Some e → IsGiver i (u ∷ us) (suc n) c e
    go (Some x) j r k =
        let q : (flaw_of u ≡ None) × (x ≡ e) = unflawed x e (flaw_of u) k in
        record { number = 0; unit = u; below = omega arith; at = refl; first = refl; fine = q.0; gives = j ∙ ap Some q.1 }
    go None j r k =
        let g : IsGiver (suc i) us n c e = r k in
        let l : g.number < n = g.below in
        record {
          number = suc g.number;
          unit = g.unit;
          below = omega (arith, l);
          at = g.at;
          first = ap (λ o. first_of_two (at_unit i u o) (first_giving (suc i) (take g.number us) c)) j ∙ g.first;
          fine = g.fine;
          gives = g.gives;
        }

-- no member of a block is a def
abbrev NoDef : Name → Entry → Type 0
NoDef c e = by_def e.kind ≡ false

types_no_def : (b : Block) (ts : List BlockType) → AllMembers NoDef (type_entries b ts)
types_no_def b [] = tt
types_no_def b (t ∷ ts) = (refl, types_no_def b ts)

ctors_no_def : (b : Block) (t : BlockType) (cs : List Ctor) → AllMembers NoDef (ctor_entries b t cs)
ctors_no_def b t [] = tt
ctors_no_def b t (c ∷ cs) = (refl, ctors_no_def b t cs)

all_ctors_no_def : (b : Block) (ts : List BlockType) → AllMembers NoDef (all_ctor_entries b ts)
all_ctors_no_def b [] = tt
all_ctors_no_def b (t ∷ ts) = all_append NoDef (ctor_entries b t t.ctors) (all_ctor_entries b ts) (ctors_no_def b t t.ctors) (all_ctors_no_def b ts)

recs_no_def : (rs : List BlockRecursor) → AllMembers NoDef (rec_members rs)
recs_no_def [] = tt
recs_no_def (r ∷ rs) = (refl, recs_no_def rs)

block_no_def : (b : Block) (rs : List BlockRecursor) → AllMembers NoDef (members_of (of_block b rs))
block_no_def b rs = all_append NoDef (type_entries b b.types) (all_ctor_entries b b.types ++ rec_members rs) (types_no_def b b.types)
    (all_append NoDef (all_ctor_entries b b.types) (rec_members rs) (all_ctors_no_def b b.types) (recs_no_def rs))

-- a def's hint and value
record IsDefBody (b : Body) : Type 0 where
  hint : Hint
  value : Tree
  is : b ≡ as_def hint value

def_body : (b : Body) → by_def (kind_of b) ≡ true → IsDefBody b
def_body (as_def h v) e = record { hint = h; value = v; is = refl }
def_body as_axiom e = absurd cc
def_body (as_thm v) e = absurd cc
def_body (as_opaque v) e = absurd cc
def_body as_quot e = absurd cc

-- a unit that gives an operation with laws by a def, and the entry that it gives
record GivesDef (u : LibraryUnit) (op : Op) (e : Entry) : Type 0 where
  decl : Decl
  body : IsDefBody decl.body
  unit_is : u ≡ of_decl decl
  name_is : op_name op ≡ decl.name
  entry_is : record { levels = decl.levels; type = decl.type; kind = a_def body.hint body.value } ≡ e

gives_op : (u : LibraryUnit) (op : Op) (e : Entry) → given_by (members_of u) (op_name op) ≡ Some e → by_def e.kind ≡ true → GivesDef u op e
gives_op (of_block b rs) op e g d = let n : by_def e.kind ≡ false = given_member NoDef (members_of (of_block b rs)) (op_name op) e (block_no_def b rs) g in absurd cc
gives_op (of_decl d) op e g k = go (name_discrete d.name (op_name op)) g
  where
    entry : Entry
    entry = record { levels = d.levels; type = d.type; kind = kind_of d.body }

    go : (x : Dec (d.name ≡ op_name op)) → elim x as (λ y. Option Entry) [ yes z ↦ Some entry | no f ↦ None ] ≡ Some e → GivesDef (of_decl d) op e
    go (yes z) h =
        let same : entry ≡ e = Some_inj h in
        let b : IsDefBody d.body = def_body d.body (subst (λ y. by_def y.kind ≡ true) (sym same) k) in
        record { decl = d; body = b; unit_is = refl; name_is = sym z; entry_is = ap (λ y. record { levels = d.levels; type = d.type; kind = kind_of y }) (sym b.is) ∙ same }
    go (no f) h = absurd cc

decl_derived : (us : Library) (m : ℕ) (u : LibraryUnit) (d : Decl) → u ≡ of_decl d → UnitDerived us m u → DeclDerived (place_of us m []) d
decl_derived us m (of_decl c) d e (declaration h) = let same : c ≡ d = decl_is e in subst (λ x. DeclDerived (place_of us m []) x) same h
  where
    decl_is : of_decl c ≡ of_decl d → c ≡ d
    decl_is i = cc
decl_derived us m (of_block b rs) d e h = absurd cc

-- what a good unit says of the operation that it gives
good_laws : (us : Library) (m : ℕ) (u : LibraryUnit) (op : Op) (e : Entry) → has_laws op ≡ true → slice_get us m ≡ Some u → GivesDef u op e → IsGoodUnit us m → MeetsLaws (place_of us m []) op e
good_laws us m u op e has at g good =
    let same : good.unit ≡ of_decl g.decl = Some_inj (sym good.given ∙ at) ∙ g.unit_is in
    let d : DeclDerived (place_of us m []) g.decl = decl_derived us m good.unit g.decl same good.derived in
    let b : BodyDerived (place_of us m []) g.decl d.level (as_def g.body.hint g.body.value) = subst (λ x. BodyDerived (place_of us m []) g.decl d.level x) g.body.is d.body in
    subst (λ x. MeetsLaws (place_of us m []) op x) g.entry_is (b.1 op g.name_is has).1

-- where each earlier unit that gives an operation with laws is good, the operations have their laws
pub lawful_at : (us : Library) (n : ℕ) → ((m : ℕ) → m < n → GivesOperation us m → IsGoodUnit us m) → IsLawfulPlace (place_of us n [])
lawful_at us n good op o = elim (true_or_not (has_laws op)) [
  | inr other ↦ no_laws (place_of us n []) op o.entry other
  | inl has ↦
      let g : IsGiver 0 us n (op_name op) o.entry = giver 0 n us (op_name op) o.entry o.given in
      let d : GivesDef g.unit op o.entry = gives_op g.unit op o.entry g.gives (gives_def op o.entry.kind has o.kind) in
      let gives : GivesOperation us g.number = record {
        op = op;
        decl = d.decl;
        hint = d.body.hint;
        value = d.body.value;
        lawful = has;
        at = g.at ∙ ap Some d.unit_is;
        name_is = d.name_is;
        body_is = d.body.is;
        first = subst (λ c. first_giving 0 (take g.number us) c ≡ None) d.name_is g.first;
        flawless = subst (λ u. flaw_of u ≡ None) d.unit_is g.fine;
      } in
      let laws : MeetsLaws (place_of us g.number []) op o.entry = good_laws us g.number g.unit op o.entry has g.at d (good g.number g.below gives) in
      let l : g.number < n = g.below in
      more_laws (place_of us g.number []) (place_of us n []) (later_within us g.number n (omega (arith, l))) laws
]
  where
    later_within : (us : Library) (n m : ℕ) → n ≤ m → IsWithin (place_of us n []) (place_of us m [])
    later_within us n m l c e h =
        let f : (f : Found) × (first_giving 0 (take n us) c ≡ Some f) = found_entry (first_giving 0 (take n us) c) e h in
        inl (ap (option_and_then flawless) (prefix_gives 0 n m us c f.0 l f.1) ∙ (ap (option_and_then flawless) (sym f.1) ∙ h))

-- the members of unit n are fresh, where its names are new
new_names : (us : Library) (n : ℕ) (ms : Members) → AreNew us n ms → AllMembers (λ c e. first_giving 0 (take n us) c ≡ None) ms
new_names us n [] h = tt
new_names us n (m ∷ ms) h = (h.0, new_names us n ms h.2)

all_split : (P : Name → Entry → Type 0) (xs ys : Members) → AllMembers P (xs ++ ys) → AllMembers P xs × AllMembers P ys
all_split P [] ys h = (tt, h)
all_split P (x ∷ xs) ys h = let r : AllMembers P xs × AllMembers P ys = all_split P xs ys h.1 in ((h.0, r.0), r.1)

both_of : (P Q : Name → Entry → Type 0) (ms : Members) → AllMembers P ms → AllMembers Q ms → AllMembers (λ c e. P c e × Q c e) ms
both_of P Q [] h k = tt
both_of P Q (m ∷ ms) h k = ((h.0, k.0), both_of P Q ms h.1 k.1)

-- a recursor without rules has the same name
without_rules : (us : Library) (n : ℕ) (rs : List BlockRecursor) → AllMembers (λ c e. first_giving 0 (take n us) c ≡ None) (rec_members rs) → AllMembers (IsFresh us n) (rec_entries rs)
without_rules us n [] h = tt
without_rules us n (r ∷ rs) h = ((h.0, refl), without_rules us n rs h.1)

-- so are its types, and its constructors and recursors while it is checked
pub block_fresh : (us : Library) (n : ℕ) (b : Block) (rs : List BlockRecursor) → AreNew us n (members_of (of_block b rs)) →
    AllMembers (IsFresh us n) (partial_types b) × AllMembers (IsFresh us n) (partial_members b rs)
block_fresh us n b rs h =
    let New = λ (c : Name) (e : Entry). first_giving 0 (take n us) c ≡ None in
    let all : AllMembers New (members_of (of_block b rs)) = new_names us n (members_of (of_block b rs)) h in
    let types : AllMembers New (type_entries b b.types) × AllMembers New (all_ctor_entries b b.types ++ rec_members rs) = all_split New (type_entries b b.types) (all_ctor_entries b b.types ++ rec_members rs) all in
    let rest : AllMembers New (all_ctor_entries b b.types) × AllMembers New (rec_members rs) = all_split New (all_ctor_entries b b.types) (rec_members rs) types.1 in (
      both_of New NoDef (type_entries b b.types) types.0 (types_no_def b b.types),
      all_append (IsFresh us n) (all_ctor_entries b b.types) (rec_entries rs) (both_of New NoDef (all_ctor_entries b b.types) rest.0 (all_ctors_no_def b b.types)) (without_rules us n rs rest.1),
    )

-- auxiliary types are fresh: no unit of a clear library gives a marked name
pub aux_fresh : (us : Library) (n : ℕ) → IsClearLibrary us → (w : Place) (s : Setting) (ms : List (Name × Original)) (auxs : List Aux) (i : ℕ) (ts : List BlockType) → AuxTypes w s ms auxs i ts → AllMembers (IsFresh us n) (bare_entries ts)
aux_fresh us n cl w s ms auxs i [] h = tt
aux_fresh us n cl w s ms auxs i (t ∷ ts) (aux_more f a r) =
    let marked : IsMarked t.name = (Part.number i ∷ [], inl a.name) in
    ((none_marked 0 n us t.name cl marked, refl), aux_fresh us n cl w s ms auxs (suc i) ts r)

pub fresh_append : (us : Library) (n : ℕ) (xs ys : Members) → AllMembers (IsFresh us n) xs → AllMembers (IsFresh us n) ys → AllMembers (IsFresh us n) (xs ++ ys)
fresh_append us n xs ys h k = all_append (IsFresh us n) xs ys h k
