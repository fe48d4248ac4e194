-- Chains of links, and one link more.
use Rattle.std.proofs.Common.{ℕ, zero, suc, ◌≡◌, ◌≢◌, ◌+◌, ◌-◌, ◌<◌, ◌≤◌, ◌⊎◌, inl, inr, List, [], ◌∷◌, ◌++◌, All, take, length, get_or, set, Some, replicate, refl, sym, ap, subst, ◌∙◌, arith, get_or-set_other, get_or-set_same}
use Rattle.std.specs.Prelude.{slice_get}
use Rattle.std.proofs.lemmas.Bool.{cases_eq}
use Rattle.std.proofs.lemmas.List.{take_more, length_push, length-replicate}
use Rattle.std.proofs.lemmas.List.Elements.{All-get_or, Contains-append_cases, Contains-append_left, Contains-append_right}
use Rattle.std.proofs.lemmas.Option.{slice_get_within}
use Rattle.std.proofs.Math.ListN.{length-set}
use Rattle.lk_needs.specs.declared.thing.Thing.{Thing}
use Rattle.lk_needs.specs.Marks.{Room, IsThing}
use Rattle.lk_needs.proofs.Lists.{contains_first, contains_cases, contains_none}
use Rattle.lk_recheck.specs.declared.sources.Link.{Link}
use Rattle.lk_recheck.specs.declared.sources.Sources.{Sources}
use Rattle.lk_recheck.specs.Sources.{slot, slots, Behind, here, later, last_of, IsSource, AreLinked, IsOneMore, AreMore, HasNone}
use Rattle.lk_recheck.proofs.Numbers.{slot_in}

get_left : {X : Type 0} (xs ys : List X) (j : ℕ) (x : X) → slice_get xs j ≡ Some x → slice_get (xs ++ ys) j ≡ Some x
get_left [] ys j x e = absurd cc
get_left (y ∷ xs) ys zero x e = e
get_left (y ∷ xs) ys (suc j) x e = get_left xs ys j x e

pub get_back : {X : Type 0} (xs ys : List X) (j : ℕ) → j < length xs → slice_get (xs ++ ys) j ≡ slice_get xs j
get_back [] ys j l = absurd (omega (arith, l))
get_back (y ∷ xs) ys zero l = refl
get_back (y ∷ xs) ys (suc j) l = get_back xs ys j (omega (arith, l))

pub get_last : {X : Type 0} (xs : List X) (x : X) (j : ℕ) → j ≡ length xs → slice_get (xs ++ x ∷ []) j ≡ Some x
get_last [] x zero e = refl
get_last [] x (suc j) e = absurd (omega (arith, e))
get_last (y ∷ xs) x zero e = absurd (omega (arith, e))
get_last (y ∷ xs) x (suc j) e = get_last xs x j (omega (arith, e))

pub behind_more : (ls ms : List Link) (a h : ℕ) → Behind ls a h → Behind (ls ++ ms) a h
behind_more ls ms a h (here _ l p e s) = here h l p (get_left ls ms (h - 1) l e) s
behind_more ls ms a h (later _ l p e b) = later h l p (get_left ls ms (h - 1) l e) (behind_more ls ms a l.previous b)

-- a place with something at or behind it is not the first
pub behind_some : (ls : List Link) (a h : ℕ) → Behind ls a h → 0 < h
behind_some ls a h (here _ l p e s) = p
behind_some ls a h (later _ l p e b) = p

-- what stands at place h and behind it
pub behind_cases : (ls : List Link) (a h : ℕ) → Behind ls a h → (l : Link) → slice_get ls (h - 1) ≡ Some l → (0 < h) × ((l.source ≡ a) ⊎ Behind ls a l.previous)
behind_cases ls a h (here _ m p e s) l f =
    let both : Some m ≡ Some l = sym e ∙ f in
    let same : m ≡ l = cc in
    (p, inl (ap (λ (k : Link). k.source) (sym same) ∙ s))
behind_cases ls a h (later _ m p e b) l f =
    let both : Some m ≡ Some l = sym e ∙ f in
    let same : m ≡ l = cc in
    (p, inr (subst (λ (k : Link). Behind ls a k.previous) same b))

-- what stands before the last link, no matter what that is
behind_back : (ls : List Link) (m : Link) → ((j : ℕ) (l : Link) → slice_get ls j ≡ Some l → l.previous ≤ j) → (a h : ℕ) → h ≤ length ls → Behind (ls ++ m ∷ []) a h → Behind ls a h
behind_back ls m back a h w (here _ l p e s) = here h l p (sym (get_back ls (m ∷ []) (h - 1) (omega (arith, p, w))) ∙ e) s
behind_back ls m back a h w (later _ l p e b) =
    let at : slice_get ls (h - 1) ≡ Some l = sym (get_back ls (m ∷ []) (h - 1) (omega (arith, p, w))) ∙ e in
    let lower = back (h - 1) l at in
    later h l p at (behind_back ls m back a l.previous (omega (arith, p, w, lower)) b)

-- One link more, from a to b.
module _ (old new : Sources) (a b : ℕ) (linked : AreLinked old) (a_in : a < length old.last.items) (b_in : b < length old.last.items) (m : Link) (from : m.source ≡ a) (before : m.previous ≡ last_of old b)
    (links : new.links.items ≡ old.links.items ++ m ∷ []) (lasts : new.last.items ≡ set old.last.items b (length old.links.items + 1)) where
  abbrev end : ℕ
  end = length old.links.items

  count : length new.links.items ≡ end + 1
  count = ap length links ∙ length_push old.links.items m

  as_many : length new.last.items ≡ length old.last.items
  as_many = ap length lasts ∙ length-set old.last.items b (end + 1)

  last_here : last_of new b ≡ end + 1
  last_here = ap (λ (xs : List ℕ). get_or xs b 0) lasts ∙ get_or-set_same old.last.items b (end + 1) 0 b_in

  last_other : (q : ℕ) → q ≢ b → last_of new q ≡ last_of old q
  last_other q ne = ap (λ (xs : List ℕ). get_or xs q 0) lasts ∙ get_or-set_other old.last.items b q (end + 1) 0 ne

  new_link : slice_get new.links.items end ≡ Some m
  new_link = ap (λ (xs : List Link). slice_get xs end) links ∙ get_last old.links.items m end refl

  link_cases : (j : ℕ) (l : Link) → slice_get new.links.items j ≡ Some l → (slice_get old.links.items j ≡ Some l) ⊎ ((j ≡ end) × (m ≡ l))
  link_cases j l e = go (cases_eq j end)
    where
      go : (j ≡ end) ⊎ (j ≡ end → ⊥) → (slice_get old.links.items j ≡ Some l) ⊎ ((j ≡ end) × (m ≡ l))
      go (inl is) =
          let both : Some m ≡ Some l = sym new_link ∙ ap (slice_get new.links.items) (sym is) ∙ e in
          let same : m ≡ l = cc in
          inr (is, same)
      go (inr ne) =
          let within = slice_get_within new.links.items j l e in
          let lower : j < length old.links.items = omega (arith, within, count, ne) in
          inl (sym (get_back old.links.items (m ∷ []) j lower) ∙ ap (λ (xs : List Link). slice_get xs j) (sym links) ∙ e)

  last_in : (q : ℕ) → last_of new q ≤ length new.links.items
  last_in q = go (cases_eq q b)
    where
      go : (q ≡ b) ⊎ (q ≡ b → ⊥) → last_of new q ≤ length new.links.items
      go (inl e) = let h : last_of new q ≡ end + 1 = ap (last_of new) e ∙ last_here in omega (arith, h, count)
      go (inr ne) = let h = last_other q ne in let w = linked.last_in q in omega (arith, h, w, count)

  back_to : (j : ℕ) (l : Link) → slice_get new.links.items j ≡ Some l → l.previous ≤ j
  back_to j l e = go (link_cases j l e)
    where
      go : (slice_get old.links.items j ≡ Some l) ⊎ ((j ≡ end) × (m ≡ l)) → l.previous ≤ j
      go (inl k) = linked.back j l k
      go (inr k) = let w = linked.last_in b in let s : l.previous ≡ last_of old b = ap (λ (x : Link). x.previous) (sym k.1) ∙ before in omega (arith, k.0, w, s)

  source_at : (j : ℕ) (l : Link) → slice_get new.links.items j ≡ Some l → l.source < length new.last.items
  source_at j l e = go (link_cases j l e)
    where
      go : (slice_get old.links.items j ≡ Some l) ⊎ ((j ≡ end) × (m ≡ l)) → l.source < length new.last.items
      go (inl k) = let w = linked.source_in j l k in omega (arith, w, as_many)
      go (inr k) = let s : l.source ≡ a = ap (λ (x : Link). x.source) (sym k.1) ∙ from in omega (arith, s, a_in, as_many)

  to_new : (p h : ℕ) → Behind old.links.items p h → Behind new.links.items p h
  to_new p h k = subst (λ ls. Behind ls p h) (sym links) (behind_more old.links.items (m ∷ []) p h k)

  to_old : (p h : ℕ) → h ≤ end → Behind new.links.items p h → Behind old.links.items p h
  to_old p h w k = behind_back old.links.items m linked.back p h w (subst (λ ls. Behind ls p h) links k)

  at_end : slice_get new.links.items (end + 1 - 1) ≡ Some m
  at_end = let e : end + 1 - 1 ≡ end = omega arith in ap (slice_get new.links.items) e ∙ new_link

  stays : (p q : ℕ) → IsSource old p q → IsSource new p q
  stays p q k = go (cases_eq q b)
    where
      go : (q ≡ b) ⊎ (q ≡ b → ⊥) → IsSource new p q
      go (inl e) =
          let was : Behind old.links.items p (last_of old b) = subst (λ x. IsSource old p x) e k in
          let was_before : Behind old.links.items p m.previous = subst (Behind old.links.items p) (sym before) was in
          let now : Behind new.links.items p (end + 1) = later (end + 1) m (omega arith) at_end (to_new p m.previous was_before) in
          let place : end + 1 ≡ last_of new q = sym (ap (last_of new) e ∙ last_here) in
          subst (Behind new.links.items p) place now
      go (inr ne) = subst (Behind new.links.items p) (sym (last_other q ne)) (to_new p (last_of old q) k)

  only : (p q : ℕ) → IsSource new p q → ((p ≡ a) × (q ≡ b)) ⊎ IsSource old p q
  only p q k = go (cases_eq q b)
    where
      go : (q ≡ b) ⊎ (q ≡ b → ⊥) → ((p ≡ a) × (q ≡ b)) ⊎ IsSource old p q
      go (inl e) =
          let now : Behind new.links.items p (end + 1) = subst (Behind new.links.items p) (ap (last_of new) e ∙ last_here) k in
          elim ((behind_cases new.links.items p (end + 1) now m at_end).1) [
            | inl s ↦ inl (sym s ∙ from, e)
            | inr c ↦
                let w = linked.last_in b in
                let low : m.previous ≤ end = omega (arith, w, before) in
                let was : Behind old.links.items p (last_of old b) = subst (Behind old.links.items p) before (to_old p m.previous low c) in
                inr (subst (λ x. IsSource old p x) (sym e) was)
          ]
      go (inr ne) =
          let now : Behind new.links.items p (last_of old q) = subst (Behind new.links.items p) (last_other q ne) k in
          inr (to_old p (last_of old q) (linked.last_in q) now)

  pub one_link : IsOneMore old new a b
  one_link = record {
    linked = record { last_in = last_in; back = back_to; source_in = source_at };
    as_many = as_many;
    added = subst (Behind new.links.items a) (sym last_here) (here (end + 1) m (omega arith) at_end from);
    stays = stays;
    only = only;
  }

-- nothing leads to anything, without links
pub no_links : (n : ℕ) (t : Sources) → t.last.items ≡ replicate {A = ℕ} n 0 → t.links.items ≡ [] → HasNone n t
no_links n t lasts links = record {
  linked = record {
    last_in = λ b. let e = zero_at b in omega (arith, e);
    back = λ j l e. absurd (none_at j l e);
    source_in = λ j l e. absurd (none_at j l e);
  };
  as_many = ap length lasts ∙ length-replicate {A = ℕ} n 0;
  none = λ p q k. let some = behind_some t.links.items p (last_of t q) k in let zero = zero_at q in omega (arith, some, zero);
}
  where
    zeros : (k b : ℕ) → get_or (replicate {A = ℕ} k 0) b 0 ≡ 0
    zeros zero b = refl
    zeros (suc k) zero = refl
    zeros (suc k) (suc b) = zeros k b

    zero_at : (b : ℕ) → last_of t b ≡ 0
    zero_at b = ap (λ (xs : List ℕ). get_or xs b 0) lasts ∙ zeros n b

    none_at : (j : ℕ) (l : Link) → slice_get t.links.items j ≡ Some l → ⊥
    none_at j l e = let none : slice_get [] j ≡ Some l = ap (λ (xs : List Link). slice_get xs j) (sym links) ∙ e in absurd cc

-- Several links more.
pub none_added : (r : Room) (old : Sources) (a : ℕ) → AreLinked old → AreMore r old old a []
none_added r old a linked = record {
  linked = linked;
  as_many = refl;
  each = λ y k. absurd (contains_none y k);
  stays = λ p q k. k;
  only = λ p q k. inr k;
}

one_pushed : (r : Room) (old mid new : Sources) (a b : ℕ) (xs : List Thing) (y : Thing) → AreMore r old mid a xs → IsOneMore mid new a b → b ≡ slot r y → AreMore r old new a (xs ++ y ∷ [])
one_pushed r old mid new a b xs y s o is = record {
  linked = o.linked;
  as_many = o.as_many ∙ s.as_many;
  each = λ z k. elim (Contains-append_cases xs (y ∷ []) z k) [
    | inl c ↦ o.stays a (slot r z) (s.each z c)
    | inr c ↦ elim (contains_cases y [] z c) [ inl e ↦ subst (IsSource new a) (is ∙ ap (slot r) e) o.added | inr n ↦ absurd (contains_none z n) ]
  ];
  stays = λ p q k. o.stays p q (s.stays p q k);
  only = λ p q k. elim (o.only p q k) [
    | inl e ↦ inl (e.0, record { thing = y; is_one = Contains-append_right xs (y ∷ []) y (contains_first y []); is = sym is ∙ sym e.1 })
    | inr c ↦ elim (s.only p q c) [
      | inl e ↦ inl (e.0, record { thing = e.1.thing; is_one = Contains-append_left xs (y ∷ []) e.1.thing e.1.is_one; is = e.1.is })
      | inr d ↦ inr d
    ]
  ];
}

pub one_added : (r : Room) (old mid new : Sources) (a b : ℕ) (ts : List Thing) (i : ℕ) (d : Thing) → i < length ts → AreMore r old mid a (take i ts) → IsOneMore mid new a b → b ≡ slot r (get_or ts i d) → AreMore r old new a (take (i + 1) ts)
one_added r old mid new a b ts i d l s o is = subst (AreMore r old new a) (sym (take_more ts i d l)) (one_pushed r old mid new a b (take i ts) (get_or ts i d) s o is)

pub next_source_in : (r : Room) (old mid : Sources) (a : ℕ) (ts : List Thing) → a < slots r → length old.last.items ≡ slots r → AreMore r old mid a ts → a < length mid.last.items
next_source_in r old mid a ts l few s = omega (arith, l, few, s.as_many)

pub next_target_in : (r : Room) (old mid : Sources) (a b : ℕ) (ts : List Thing) (i : ℕ) (d : Thing) → All (IsThing r) ts → i < length ts → length old.last.items ≡ slots r → AreMore r old mid a (take i ts) → b ≡ slot r (get_or ts i d) → b < length mid.last.items
next_target_in r old mid a b ts i d all l few s is =
    let w : slot r (get_or ts i d) < slots r = slot_in r (get_or ts i d) (All-get_or (IsThing r) ts i d l all) in
    omega (arith, w, few, s.as_many, is)
