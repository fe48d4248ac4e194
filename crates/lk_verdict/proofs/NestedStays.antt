-- What is derived of a block with nested occurrences is derived at later places, where its auxiliary types stay partial.
use Rattle.std.proofs.Common.{ℕ, zero, suc, ◌≡◌, ◌<◌, ◌⊎◌, inl, inr, List, [], ◌∷◌, ◌++◌, take, Option, Some, None, refl, sym, ap, ◌∙◌, arith}
use Rattle.std.specs.Prelude.{option_and_then, slice_get}
use Rattle.lk_tree.specs.Tree.{Name, name_discrete}
use Rattle.lk_rulebook.specs.Place.{Place, Entry, Block, BlockType, BlockRecursor}
use Rattle.lk_rulebook.specs.Units.{LibraryUnit, of_block, Library, Members, members_of, trees_of, Found, flawless, given_by, first_of_two, at_unit, at_partial, first_giving, place_of}
use Rattle.lk_rulebook.specs.Scan.{IsScanned}
use Rattle.lk_rulebook.proofs.Scans.{no_flaw, scanned_stated}
use Rattle.lk_questions.proofs.Places.{found_entry}
use Rattle.lk_inductive.specs.Grows.{IsWithin, RulesCome}
use Rattle.lk_inductive.specs.Block.{Shape}
use Rattle.lk_inductive.specs.Enlarged.{Aux, Setting, bare_entries}
use Rattle.lk_inductive.specs.Restore.{Original}
use Rattle.lk_inductive.specs.Whole.{partial_types, partial_members}
use Rattle.lk_inductive.specs.NestedRelation.{AuxTypes, no_aux, aux_more, middle_half, last_half, NestedDerived, IsMarked}
use Rattle.lk_inductive.proofs.After.{after_within}
use Rattle.lk_inductive.proofs.Partials.{first_entry, given_append}
use Rattle.lk_inductive.proofs.MoreNested.{more_nested}
use Rattle.lk_verdict.specs.GoodUnit.{NamesClear, IsClearLibrary}
use Rattle.lk_verdict.specs.Later.{later_place}
use Rattle.lk_verdict.proofs.Stays.{Gives, later_gives, completes_block, new_given}

Some_is : {A : Type 0} {a b : A} → Some a ≡ Some b → a ≡ b
Some_is e = cc

-- no unit of a clear library gives a marked name
unmarked : (ms : Members) (c : Name) → NamesClear ms → IsMarked c → given_by ms c ≡ None
unmarked [] c h k = refl
unmarked (m ∷ ms) c h k = go (unmarked ms c h.1 k) (name_discrete m.0 c)
  where
    go : given_by ms c ≡ None → (d : Dec (m.0 ≡ c)) → elim d as (λ y. Option Entry) [ yes x ↦ Some m.1 | no f ↦ given_by ms c ] ≡ None
    go f (yes x) = absurd (h.0 (rw x k))
    go f (no x) = f

pub none_marked : (i m : ℕ) (us : Library) (c : Name) → IsClearLibrary us → IsMarked c → first_giving i (take m us) c ≡ None
none_marked i zero us c h k = refl
none_marked i (suc m) [] c h k = refl
none_marked i (suc m) (u ∷ us) c h k =
    ap (λ o. first_of_two (at_unit i u o) (first_giving (suc i) (take m us) c)) (unmarked (members_of u) c h.0.names k) ∙ none_marked (suc i) m us c h.1 k

pub aux_marked : {w : Place} {s : Setting} {ms : List (Name × Original)} {auxs : List Aux} {i : ℕ} {ts : List BlockType} → AuxTypes w s ms auxs i ts → (c : Name) (e : Entry) → given_by (bare_entries ts) c ≡ Some e → IsMarked c
aux_marked (no_aux n) c e g = absurd cc
aux_marked (aux_more {t = t} {ts = ts} n h k) c e g = go _ (aux_marked k c e) (name_discrete t.name c) g
  where
    go : (a : Entry) → (given_by (bare_entries ts) c ≡ Some e → IsMarked c) → (d : Dec (t.name ≡ c)) → elim d as (λ y. Option Entry) [ yes x ↦ Some a | no f ↦ given_by (bare_entries ts) c ] ≡ Some e → IsMarked c
    go a f (yes x) j = (_, inl (sym x ∙ h.name))
    go a f (no x) j = f j

first_of : (o p : Option Entry) (e : Entry) → first_entry o p ≡ Some e → (o ≡ Some e) ⊎ (p ≡ Some e)
first_of (Some x) p e k = inl k
first_of None p e k = inr k

between : (o p q : Option Entry) (e : Entry) → first_entry (first_entry o p) q ≡ Some e → (first_entry o q ≡ Some e) ⊎ (p ≡ Some e)
between (Some x) p q e k = inl k
between None (Some y) q e k = inr k
between None None q e k = inl k

module _ (us : Library) (n m : ℕ) where
  -- what is partial: a unit gives it later, or none does
  abbrev Comes : Name → Entry → Type 0
  Comes c e = (((place_of us m []).means c ≡ Some e) ⊎ ((e' : Entry) × ((place_of us m []).means c ≡ Some e') × RulesCome e e')) ⊎ (first_giving 0 (take m us) c ≡ None)

  abbrev AllCome : Members → Type 0
  AllCome h = (c : Name) (e : Entry) → given_by h c ≡ Some e → Comes c e

  -- what units give goes first
  later_first : (h : Members) (c : Name) (e : Entry) → (place_of us m []).means c ≡ Some e → (later_place us m h).means c ≡ Some e
  later_first h c e k =
      let f : (f : Found) × (first_giving 0 (take m us) c ≡ Some f) = found_entry (first_giving 0 (take m us) c) e k in
      ap (λ o. option_and_then flawless (first_of_two o (at_partial m (given_by h c)))) f.1 ∙ (ap (option_and_then flawless) (sym f.1) ∙ k)

  all_within : n < m → (h : Members) → AllCome h → IsWithin (place_of us n h) (later_place us m h)
  all_within l h all c e k = go (given_by h c) refl k
    where
      still : (x : Entry) → given_by h c ≡ Some x → Comes c x → ((later_place us m h).means c ≡ Some x) ⊎ ((e' : Entry) × ((later_place us m h).means c ≡ Some e') × RulesCome x e')
      still x i (inl (inl g)) = inl (later_first h c x g)
      still x i (inl (inr g)) = inr (g.0, later_first h c g.0 g.1, g.2)
      still x i (inr none) = inl (ap (λ o. option_and_then flawless (first_of_two o (at_partial m (given_by h c)))) none ∙ ap (λ o. option_and_then flawless (at_partial m o)) i)

      go : (g : Option Entry) → given_by h c ≡ g → option_and_then flawless (first_of_two (at_partial n g) (first_giving 0 (take n us) c)) ≡ Some e →
          ((later_place us m h).means c ≡ Some e) ⊎ ((e' : Entry) × ((later_place us m h).means c ≡ Some e') × RulesCome e e')
      go (Some x) i j = let q : x ≡ e = Some_is j in still e (i ∙ ap Some q) (all c e (i ∙ ap Some q))
      go None i j = inl (later_first h c e (later_gives us n m (omega arith) c e j))

  -- where all come of xs ++ zs and of hs, they come of hs between the two
  module _ (xs hs zs : Members) (all : AllCome (xs ++ zs)) where
    front_come : AllCome xs
    front_come c e g = all c e (given_append xs zs c ∙ ap (λ o. first_entry o (given_by zs c)) g)

    middle_come : AllCome hs → AllCome (xs ++ hs)
    middle_come aux c e g = elim (first_of (given_by xs c) (given_by hs c) e (sym (given_append xs hs c) ∙ g)) [ inl k ↦ front_come c e k | inr k ↦ aux c e k ]

    last_come : AllCome hs → AllCome ((xs ++ hs) ++ zs)
    last_come aux c e g =
        let at : first_entry (first_entry (given_by xs c) (given_by hs c)) (given_by zs c) ≡ Some e =
        ap (λ o. first_entry o (given_by zs c)) (sym (given_append xs hs c)) ∙ (sym (given_append (xs ++ hs) zs c) ∙ g) in
        elim (between (given_by xs c) (given_by hs c) (given_by zs c) e at) [ inl k ↦ all c e (given_append xs zs c ∙ k) | inr k ↦ aux c e k ]

  -- a block's own names are given by its unit
  own_come : (b : Block) (rs : List BlockRecursor) → n < m → slice_get us n ≡ Some (of_block b rs) → IsScanned us n (of_block b rs) → AllCome (partial_types b ++ partial_members b rs)
  own_come b rs l at sc c e g =
      let u : LibraryUnit = of_block b rs in
      let own : Members = partial_types b ++ partial_members b rs in
      let there : (place_of us n own).means c ≡ Some e = ap (λ o. option_and_then flawless (first_of_two (at_partial n o) (first_giving 0 (take n us) c))) g in
      let i : IsWithin (place_of us n own) (place_of us (suc n) []) =
      after_within us n u own at (no_flaw u (scanned_stated (trees_of u) sc.trees)) (completes_block b rs) (λ c e k. new_given us n (members_of u) c e sc.names k) in
      let later : Gives (place_of us (suc n) []) (place_of us m []) = later_gives us (suc n) m (omega arith) in
      inl (elim (i c e there) [ inl k ↦ inl (later c e k) | inr x ↦ inr (x.0, later c x.0 x.1, x.2) ])

  pub nested_stays : (b : Block) (rs : List BlockRecursor) (s : Shape) → n < m → IsClearLibrary us → slice_get us n ≡ Some (of_block b rs) → IsScanned us n (of_block b rs) →
      NestedDerived (place_of us n) b rs s → NestedDerived (later_place us m) b rs s
  nested_stays b rs s l clear at sc d =
      let types : Members = partial_types b in
      let members : Members = partial_members b rs in
      let all : AllCome (types ++ members) = own_come b rs l at sc in
      more_nested (place_of us n) (later_place us m) b rs s (all_within l [] (λ c e g. absurd cc)) (all_within l types (front_come types [] members all))
      (λ lg g.
      let bares : Members = bare_entries lg.aux in
      let aux : AllCome bares = λ c e k. inr (none_marked 0 m us c clear (aux_marked g.aux c e k)) in
      (all_within l (middle_half b lg) (middle_come types bares members all aux), all_within l (last_half b rs lg) (last_come types bares members all aux)))
      d
