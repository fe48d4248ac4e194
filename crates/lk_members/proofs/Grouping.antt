-- The recursors of each list of types, with a line more or a list more.
use Rattle.std.proofs.Common.{◌≡◌, ℕ, zero, suc, ◌<◌, ◌≤◌, Bool, true, false, inl, inr, List, [], ◌∷◌, ◌++◌, length, get_or, Some, None, refl, ap, sym, subst, ◌∙◌, arith}
use Rattle.std.specs.Prelude.{◌⊎◌, ◌≢◌, All, nat_eq, slice_get, ◌&&◌, ◌||◌, if◌then◌else◌}
use Rattle.std.specs.List.{flat_map}
use Rattle.std.proofs.lemmas.Bool.Decides.{nat_tests}
use Rattle.std.proofs.lemmas.List.{append-nil, length-append}
use Rattle.std.proofs.lemmas.List.Concat.{flat_map-append}
use Rattle.std.proofs.lemmas.List.Elements.{All-head, All-tail, All-push, All-weaker, All-same}
use Rattle.std.proofs.lemmas.Option.{slice_get_within, get_or_from_slice_get}
use Rattle.lk_env.specs.declared.unit.Recursor.{Recursor}
use Rattle.lk_members.specs.Lines.{a_recursor, same_list, recursor_here, recursors_of, is_recursor_here, has_recursor}
use Rattle.lk_members.specs.Stored.{NumberedLine}
use Rattle.lk_members.specs.Indices.{recursor_at}
use Rattle.lk_members.specs.Taking.{with_line, with_place}
use Rattle.lk_members.proofs.Looking.{same_self, lists_same}
use Rattle.lk_members.proofs.Appending.{get_below, get_last, get_before, get_either, recursors_more, has_recursor_more, or_false}

-- the places of a list
abbrev pub group_in : List (List ℕ) → List (List ℕ) → List ℕ → List ℕ
group_in [] gs us = []
group_in (l ∷ ls) [] us = []
group_in (l ∷ ls) (g ∷ gs) us = if same_list nat_eq l us then g else group_in ls gs us

abbrev pub AreApart : List (List ℕ) → Type 0
AreApart ls = (j k : ℕ) (us : List ℕ) → slice_get ls j ≡ Some us → slice_get ls k ≡ Some us → j ≡ k

abbrev pub IsNone : List (List ℕ) → List ℕ → Type 0
IsNone ls us = (k : ℕ) → slice_get ls k ≡ Some us → ⊥

-- the groups of the lists, and the names that are stated of each
pub record AreGrouped (lists groups : List (List ℕ)) (named : ℕ → ℕ → Bool) (lines : List NumberedLine) : Type 0 where
  pub grouped : length groups ≡ length lists
  pub apart : AreApart lists
  pub placed : (us : List ℕ) → All (λ i. i < length lines) (group_in lists groups us)
  pub found : (us : List ℕ) → flat_map (recursor_at lines us) (group_in lists groups us) ≡ recursors_of nat_eq lines us
  pub names : (k n : ℕ) (us : List ℕ) → slice_get lists k ≡ Some us → named k n ≡ has_recursor nat_eq lines us n
  pub unlisted : (us : List ℕ) (n : ℕ) → IsNone lists us → has_recursor nat_eq lines us n ≡ false
  pub none_above : (k n : ℕ) → length lists ≤ k → named k n ≡ false

-- equal lists, or not
same_or_not : (us ts : List ℕ) → (us ≡ ts) ⊎ (same_list nat_eq us ts ≡ false)
same_or_not us ts = go (same_list nat_eq us ts) refl
  where
    go : (b : Bool) → same_list nat_eq us ts ≡ b → (us ≡ ts) ⊎ (same_list nat_eq us ts ≡ false)
    go true e = inl (lists_same us ts e)
    go false e = inr e

other_list : (us ts : List ℕ) → (us ≡ ts → ⊥) → same_list nat_eq us ts ≡ false
other_list us ts f = go (same_or_not us ts)
  where
    go : (us ≡ ts) ⊎ (same_list nat_eq us ts ≡ false) → same_list nat_eq us ts ≡ false
    go (inl e) = absurd (f e)
    go (inr e) = e

same_eq : (us ts : List ℕ) → us ≡ ts → same_list nat_eq us ts ≡ true
same_eq us ts e = subst (λ x. same_list nat_eq us x ≡ true) e (same_self us)

not_same : (us ts : List ℕ) → same_list nat_eq us ts ≡ false → us ≡ ts → ⊥
not_same us ts off e = let yes = same_eq us ts e in let wrong : true ≡ false = sym yes ∙ off in absurd (cc)

group_none : (ls gs : List (List ℕ)) (us : List ℕ) → IsNone ls us → group_in ls gs us ≡ []
group_none [] gs us h = refl
group_none (l ∷ ls) [] us h = refl
group_none (l ∷ ls) (g ∷ gs) us h = let off = other_list l us (λ (e : l ≡ us). h 0 (ap (λ x. Some x) e)) in rw off (group_none ls gs us (λ k. h (suc k)))

apart_tail : (l : List ℕ) (ls : List (List ℕ)) → AreApart (l ∷ ls) → AreApart ls
apart_tail l ls apart j k us a b = let e = apart (suc j) (suc k) us a b in omega arith

-- a place more in the group of the list
group_at : (ls gs : List (List ℕ)) (k i : ℕ) (us : List ℕ) → AreApart ls → length gs ≡ length ls → slice_get ls k ≡ Some us → group_in ls (with_place gs k i) us ≡ group_in ls gs us ++ i ∷ []
group_at [] gs k i us apart len at = absurd (cc)
group_at (l ∷ ls) [] k i us apart len at = absurd (omega arith)
group_at (l ∷ ls) (g ∷ gs) zero i us apart len at = let same = same_eq l us cc in rw same refl
group_at (l ∷ ls) (g ∷ gs) (suc k) i us apart len at =
    let off = other_list l us (λ (e : l ≡ us). let wrong = apart 0 (suc k) us (ap (λ x. Some x) e) at in absurd (omega arith)) in
    rw off (group_at ls gs k i us (apart_tail l ls apart) (omega arith) at)

group_other : (ls gs : List (List ℕ)) (k i : ℕ) (ts us : List ℕ) → slice_get ls k ≡ Some ts → same_list nat_eq ts us ≡ false → group_in ls (with_place gs k i) us ≡ group_in ls gs us
group_other [] gs k i ts us at off = absurd (cc)
group_other (l ∷ ls) [] k i ts us at off = refl
group_other (l ∷ ls) (g ∷ gs) zero i ts us at off = let here : l ≡ ts = cc in let other : same_list nat_eq l us ≡ false = ap (λ x. same_list nat_eq x us) here ∙ off in rw other refl
group_other (l ∷ ls) (g ∷ gs) (suc k) i ts us at off = ap (λ x. if same_list nat_eq l us then g else x) (group_other ls gs k i ts us at off)

-- a list more, without places
group_list : (ls gs : List (List ℕ)) (ts us : List ℕ) → length gs ≡ length ls → group_in (ls ++ ts ∷ []) (gs ++ [] ∷ []) us ≡ group_in ls gs us
group_list [] [] ts us len = either (same_list nat_eq ts us)
  where
    either : (b : Bool) → ◌≡◌ {A = List ℕ} (if b then [] else []) []
    either true = refl
    either false = refl
group_list [] (g ∷ gs) ts us len = absurd (omega arith)
group_list (l ∷ ls) [] ts us len = absurd (omega arith)
group_list (l ∷ ls) (g ∷ gs) ts us len = ap (λ x. if same_list nat_eq l us then g else x) (group_list ls gs ts us (omega arith))

length_with : (gs : List (List ℕ)) (k i : ℕ) → length (with_place gs k i) ≡ length gs
length_with [] k i = refl
length_with (g ∷ gs) zero i = refl
length_with (g ∷ gs) (suc k) i = ap suc (length_with gs k i)

flat_map_same : {X Y : Type 0} (P : X → Type 0) (f g : X → List Y) → ((x : X) → P x → f x ≡ g x) → (xs : List X) → All P xs → flat_map f xs ≡ flat_map g xs
flat_map_same P f g same [] h = refl
flat_map_same P f g same (x ∷ xs) h =
    ap (λ ys. ys ++ flat_map f xs) (same x (All-head P x xs h)) ∙ ap (λ ys. g x ++ ys) (flat_map_same P f g same xs (All-tail P x xs h))

recursor_below : (lines : List NumberedLine) (l : NumberedLine) (us : List ℕ) (i : ℕ) → i < length lines → recursor_at (lines ++ l ∷ []) us i ≡ recursor_at lines us i
recursor_below lines l us i h = ap (λ o. elim o as (λ x. List Recursor) [ Some k ↦ recursor_here nat_eq k.said us | None ↦ [] ]) (get_below lines l i h)

recursor_last : (lines : List NumberedLine) (l : NumberedLine) (us : List ℕ) → recursor_at (lines ++ l ∷ []) us (length lines) ≡ recursor_here nat_eq l.said us
recursor_last lines l us = ap (λ o. elim o as (λ x. List Recursor) [ Some k ↦ recursor_here nat_eq k.said us | None ↦ [] ]) (get_last lines l)

-- what earlier places lead to
found_before : (lines : List NumberedLine) (l : NumberedLine) (us places : List ℕ) → All (λ i. i < length lines) places → flat_map (recursor_at (lines ++ l ∷ []) us) places ≡ flat_map (recursor_at lines us) places
found_before lines l us places h = flat_map_same (λ i. i < length lines) (recursor_at (lines ++ l ∷ []) us) (recursor_at lines us) (recursor_below lines l us) places h

placed_before : (lines : List NumberedLine) (l : NumberedLine) (places : List ℕ) → All (λ i. i < length lines) places → All (λ i. i < length (lines ++ l ∷ [])) places
placed_before lines l places h = All-weaker (λ i. i < length lines) (λ i. i < length (lines ++ l ∷ [])) (λ i below. let len = length-append lines (l ∷ []) in omega arith) places h

-- behind a line that is no recursor's
pub grouped_other : (lists groups : List (List ℕ)) (named : ℕ → ℕ → Bool) (lines : List NumberedLine) (l : NumberedLine) → AreGrouped lists groups named lines
    → ((us : List ℕ) → recursor_here nat_eq l.said us ≡ []) → ((us : List ℕ) (n : ℕ) → is_recursor_here nat_eq l.said us n ≡ false) → AreGrouped lists groups named (lines ++ l ∷ [])
grouped_other lists groups named lines l h none off = record {
  grouped = h.grouped;
  apart = h.apart;
  placed = λ us. placed_before lines l (group_in lists groups us) (h.placed us);
  found = λ us. found_before lines l us (group_in lists groups us) (h.placed us) ∙ h.found us ∙ sym (recursors_more lines l us ∙ ap (λ rs. recursors_of nat_eq lines us ++ rs) (none us) ∙ append-nil (recursors_of nat_eq lines us));
  names = λ k n us at. h.names k n us at ∙ sym (still us n);
  unlisted = λ us n at. still us n ∙ h.unlisted us n at;
  none_above = h.none_above;
}
  where
    still : (us : List ℕ) (n : ℕ) → has_recursor nat_eq (lines ++ l ∷ []) us n ≡ has_recursor nat_eq lines us n
    still us n = has_recursor_more lines l us n ∙ ap (λ b. has_recursor nat_eq lines us n || b) (off us n) ∙ or_false (has_recursor nat_eq lines us n)

-- with a list more
pub grouped_list : (lists groups : List (List ℕ)) (named : ℕ → ℕ → Bool) (lines : List NumberedLine) (ts : List ℕ) → AreGrouped lists groups named lines → IsNone lists ts → AreGrouped (lists ++ ts ∷ []) (groups ++ [] ∷ []) named lines
grouped_list lists groups named lines ts h new = record {
  grouped = let a = length-append groups ([] ∷ []) in let b = length-append lists (ts ∷ []) in let e = h.grouped in omega arith;
  apart = λ j k us a b. apart j k us (get_either lists ts j us a) (get_either lists ts k us b);
  placed = λ us. All-same (λ i. i < length lines) (group_in (lists ++ ts ∷ []) (groups ++ [] ∷ []) us) (group_in lists groups us) (group_list lists groups ts us h.grouped) (h.placed us);
  found = λ us. ap (flat_map (recursor_at lines us)) (group_list lists groups ts us h.grouped) ∙ h.found us;
  names = λ k n us at. names k n us (get_either lists ts k us at);
  unlisted = λ us n none. h.unlisted us n (λ k at. none k (get_before lists ts k us at));
  none_above = λ k n above. h.none_above k n (let e = length-append lists (ts ∷ []) in omega arith);
}
  where
    apart : (j k : ℕ) (us : List ℕ) → (slice_get lists j ≡ Some us) ⊎ ((j ≡ length lists) × (ts ≡ us)) → (slice_get lists k ≡ Some us) ⊎ ((k ≡ length lists) × (ts ≡ us)) → j ≡ k
    apart j k us (inl a) (inl b) = h.apart j k us a b
    apart j k us (inl a) (inr b) = absurd (new j (a ∙ ap (λ x. Some x) (sym b.1)))
    apart j k us (inr a) (inl b) = absurd (new k (b ∙ ap (λ x. Some x) (sym a.1)))
    apart j k us (inr a) (inr b) = a.0 ∙ sym b.0

    names : (k n : ℕ) (us : List ℕ) → (slice_get lists k ≡ Some us) ⊎ ((k ≡ length lists) × (ts ≡ us)) → named k n ≡ has_recursor nat_eq lines us n
    names k n us (inl a) = h.names k n us a
    names k n us (inr a) = h.none_above k n (let e = a.0 in omega arith) ∙ sym (subst (λ x. has_recursor nat_eq lines x n ≡ false) a.1 (h.unlisted ts n new))

number_refl : (n : ℕ) → nat_eq n n ≡ true
number_refl n = grind (arith, nat_tests)

number_other : (m n : ℕ) → (m ≡ n → ⊥) → nat_eq m n ≡ false
number_other m n f = go (nat_eq m n) refl
  where
    go : (b : Bool) → nat_eq m n ≡ b → nat_eq m n ≡ false
    go false e = e
    go true e = absurd (f (grind (arith, nat_tests, e)))

-- behind a recursor's line
module _ (lists groups : List (List ℕ)) (named : ℕ → ℕ → Bool) (lines : List NumberedLine) (h : AreGrouped lists groups named lines)
    (number k name : ℕ) (ts : List ℕ) (r : Recursor) (at : slice_get lists k ≡ Some ts) where
  abbrev line : NumberedLine
  line = record { number = number; said = a_recursor ts name r }

  placed_now : (us : List ℕ) → (ts ≡ us) ⊎ (same_list nat_eq ts us ≡ false) → All (λ i. i < length (lines ++ line ∷ [])) (group_in lists (with_place groups k (length lines)) us)
  placed_now us (inl e) =
      All-same (λ i. i < length (lines ++ line ∷ [])) (group_in lists (with_place groups k (length lines)) us) (group_in lists groups us ++ length lines ∷ [])
      (group_at lists groups k (length lines) us h.apart h.grouped (at ∙ ap (λ x. Some x) e))
      (All-push (λ i. i < length (lines ++ line ∷ [])) (group_in lists groups us) (length lines) (placed_before lines line (group_in lists groups us) (h.placed us)) (let len = length-append lines (line ∷ []) in omega arith))
  placed_now us (inr off) =
      All-same (λ i. i < length (lines ++ line ∷ [])) (group_in lists (with_place groups k (length lines)) us) (group_in lists groups us)
      (group_other lists groups k (length lines) ts us at off) (placed_before lines line (group_in lists groups us) (h.placed us))

  found_now : (us : List ℕ) → (ts ≡ us) ⊎ (same_list nat_eq ts us ≡ false) → flat_map (recursor_at (lines ++ line ∷ []) us) (group_in lists (with_place groups k (length lines)) us) ≡ recursors_of nat_eq (lines ++ line ∷ []) us
  found_now us (inl e) =
      ap (flat_map (recursor_at (lines ++ line ∷ []) us)) (group_at lists groups k (length lines) us h.apart h.grouped (at ∙ ap (λ x. Some x) e))
      ∙ flat_map-append (recursor_at (lines ++ line ∷ []) us) (group_in lists groups us) (length lines ∷ [])
      ∙ ap (λ rs. rs ++ flat_map (recursor_at (lines ++ line ∷ []) us) (length lines ∷ [])) (found_before lines line us (group_in lists groups us) (h.placed us) ∙ h.found us)
      ∙ ap (λ rs. recursors_of nat_eq lines us ++ rs) (append-nil (recursor_at (lines ++ line ∷ []) us (length lines)) ∙ recursor_last lines line us)
      ∙ sym (recursors_more lines line us)
  found_now us (inr off) =
      ap (flat_map (recursor_at (lines ++ line ∷ []) us)) (group_other lists groups k (length lines) ts us at off)
      ∙ found_before lines line us (group_in lists groups us) (h.placed us) ∙ h.found us
      ∙ sym (recursors_more lines line us ∙ ap (λ rs. recursors_of nat_eq lines us ++ rs) none ∙ append-nil (recursors_of nat_eq lines us))
    where
      none : recursor_here nat_eq line.said us ≡ []
      none = rw off refl

  named_now : (new : ℕ → ℕ → Bool) → ((j n : ℕ) → new j n ≡ (if nat_eq k j && nat_eq name n then true else named j n)) → (j n : ℕ) (us : List ℕ) → slice_get lists j ≡ Some us → (ts ≡ us) ⊎ (same_list nat_eq ts us ≡ false)
      → new j n ≡ has_recursor nat_eq (lines ++ line ∷ []) us n
  named_now new is j n us there (inl e) =
      let here : k ≡ j = h.apart k j us (at ∙ ap (λ x. Some x) e) there in
      let same : nat_eq k j ≡ true = subst (λ x. nat_eq k x ≡ true) here (number_refl k) in
      is j n ∙ ap (λ b. if b && nat_eq name n then true else named j n) same ∙ ap (λ b. if nat_eq name n then true else b) (h.names j n us there)
      ∙ if_or (nat_eq name n) (has_recursor nat_eq lines us n)
      ∙ sym (has_recursor_more lines line us n ∙ ap (λ b. has_recursor nat_eq lines us n || (b && nat_eq name n)) (same_eq ts us e))
    where
      if_or : (b c : Bool) → (if b then true else c) ≡ (c || b)
      if_or true true = refl
      if_or true false = refl
      if_or false true = refl
      if_or false false = refl
  named_now new is j n us there (inr off) =
      let apart = λ (e : k ≡ j). not_same ts us off (let both : slice_get lists j ≡ Some ts = subst (λ x. slice_get lists x ≡ Some ts) e at in cc) in
      is j n ∙ ap (λ b. if b && nat_eq name n then true else named j n) (number_other k j apart) ∙ h.names j n us there
      ∙ sym (has_recursor_more lines line us n ∙ ap (λ b. has_recursor nat_eq lines us n || (b && nat_eq name n)) off ∙ or_false (has_recursor nat_eq lines us n))

  unlisted_now : (us : List ℕ) (n : ℕ) → IsNone lists us → has_recursor nat_eq (lines ++ line ∷ []) us n ≡ false
  unlisted_now us n none =
      has_recursor_more lines line us n ∙ ap (λ b. has_recursor nat_eq lines us n || (b && nat_eq name n)) (other_list ts us (λ (e : ts ≡ us). none k (at ∙ ap (λ x. Some x) e)))
      ∙ or_false (has_recursor nat_eq lines us n) ∙ h.unlisted us n none

  none_above_now : (new : ℕ → ℕ → Bool) → ((j n : ℕ) → new j n ≡ (if nat_eq k j && nat_eq name n then true else named j n)) → (j n : ℕ) → length lists ≤ j → new j n ≡ false
  none_above_now new is j n above =
      let within = slice_get_within lists k ts at in
      let apart = λ (e : k ≡ j). let wrong : ⊥ = omega arith in wrong in
      is j n ∙ ap (λ b. if b && nat_eq name n then true else named j n) (number_other k j apart) ∙ h.none_above j n above

  pub grouped_recursor : (new : ℕ → ℕ → Bool) (now : List (List ℕ)) → ((j n : ℕ) → new j n ≡ (if nat_eq k j && nat_eq name n then true else named j n)) → now ≡ with_place groups k (length lines) → AreGrouped lists now new (with_line lines number (a_recursor ts name r))
  grouped_recursor new now is e = subst (λ gs. AreGrouped lists gs new (with_line lines number (a_recursor ts name r))) (sym e) (record {
    grouped = length_with groups k (length lines) ∙ h.grouped;
    apart = h.apart;
    placed = λ us. placed_now us (same_or_not ts us);
    found = λ us. found_now us (same_or_not ts us);
    names = λ j n us there. named_now new is j n us there (same_or_not ts us);
    unlisted = unlisted_now;
    none_above = none_above_now new is;
  })

pub not_listed : (lists : List (List ℕ)) (names ts : List ℕ) → names ≡ ts → ((k : ℕ) (d : List ℕ) → k < length lists → get_or lists k d ≢ names) → IsNone lists ts
not_listed lists names ts e absent k at = absent k [] (slice_get_within lists k ts at) (get_or_from_slice_get lists k ts [] at ∙ sym e)

pub listed_last : (lists now : List (List ℕ)) (k : ℕ) (ts : List ℕ) → now ≡ lists ++ ts ∷ [] → k ≡ length lists → slice_get now k ≡ Some ts
listed_last lists now k ts e at = ap (λ ls. slice_get ls k) e ∙ ap (slice_get (lists ++ ts ∷ [])) at ∙ get_last lists ts

-- the number of a list is that of a group
pub group_within : (lists : List (List ℕ)) (n k : ℕ) (ts : List ℕ) → n ≡ length lists → slice_get lists k ≡ Some ts → k < n
group_within lists n k ts e at = let h = slice_get_within lists k ts at in omega arith
