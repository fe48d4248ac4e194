-- What a memo has once an answer is kept.
use Rattle.std.proofs.Common.{ℕ, ◌≡◌, ◌⊎◌, inl, inr, ◌<◌, Bool, true, false, List, [], ◌∷◌, length, Option, Some, None, refl, ap, ap₂, subst, ◌∙◌, arith}
use Rattle.std.specs.Prelude.{option_and_then}
use Rattle.std.proofs.Math.Bool.{cond}
use Rattle.std.proofs.lemmas.Bool.Decides.{nat_tests}
use Rattle.lk_questions.specs.Laws.{IsBelow}
use Rattle.lk_ask.specs.declared.kept.Kept.{Kept}
use Rattle.lk_memo.specs.declared.key.Key.{Key}
use Rattle.lk_memo.specs.declared.recent.Slot.{Slot}
use Rattle.lk_ask.specs.declared.query.Query.{Query}
use Rattle.lk_memo.specs.declared.memo.PrivateMemo.{PrivateMemo}
use Rattle.lk_memo.specs.Keys.{key_of}
use Rattle.lk_memo.specs.Slots.{found_in}
use Rattle.lk_memo.specs.LastAnswers.{LastAnswers}
use Rattle.lk_memo.specs.declared.lasting.Lasting.{Lasting}
use Rattle.lk_memo.specs.Lasting.{is_query_below, is_below, for_unit, lasting_at, lasting_of, Outlasts}
use Rattle.lk_memo.specs.Entries.{Holds, first_of, outlasting_of, kept_of}
use Rattle.lk_memo.proofs.Keys.{found_key}

none_or_some : {X : Type 0} (xs : List X) → (xs ≡ []) ⊎ (0 < length xs)
none_or_some [] = inl refl
none_or_some (x ∷ xs) = inr (omega arith)

-- it is found, in its slot or, where there are none, farther off
pub found_then : (old new : LastAnswers) (far : Option Kept) (key : Key) (kept : Kept)
    → (0 < length old.slots → found_in new key ≡ Some kept) → (old.slots ≡ [] → new ≡ old)
    → (old.slots ≡ [] → far ≡ Some kept) → first_of (found_in new key) far ≡ Some kept
found_then old new far key kept in_slot same there = elim (none_or_some old.slots) [
  | inr some ↦ ap (λ o. first_of o far) (in_slot some)
  | inl none ↦ nothing old new (same none) none ∙ there none
]
  where
    nothing : (old new : LastAnswers) → new ≡ old → old.slots ≡ []
        → first_of (found_in new key) far ≡ far
    nothing old new e n = rw (e, n) refl

-- one of two that is found
of_two : (o far : Option Kept) (kept : Kept) → first_of o far ≡ Some kept
    → (o ≡ Some kept) ⊎ (far ≡ Some kept)
of_two (Some k) far kept h = inl h
of_two None far kept h = inr h

-- what is found is held, or it outlasts its unit
pub found_holds : (memo : PrivateMemo) (query : Query ℕ) (kept : Kept) → kept_of memo query ≡ Some kept
    → Holds memo (key_of query) kept ⊎ ((lasting_of memo.lasting query ≡ Some kept)
    ⊎ (lasting_of memo.staying query ≡ Some kept))
found_holds memo query kept h = elim (of_two (found_in memo.recent (key_of query)) _ kept h) [
  | inl near ↦ inl (inl near)
  | inr far ↦ elim (of_two (outlasting_of memo query) _ kept far) [
    | inl outlasts ↦ inr (of_two (lasting_of memo.lasting query) _ kept outlasts)
    | inr dear ↦ inl (inr (found_key memo.cache.entries (key_of query) kept dear))
  ]
]

-- an answer that lasts and is found is kept, for a unit that looks behind all that were looked at
pub record IsFor (l : Lasting) (q : Query ℕ) (kept : Kept) : Type 0 where
  pub stands : Outlasts l (key_of q) kept
  pub unit : ℕ
  pub looks : l.unit ≡ Some unit
  pub below : IsBelow kept.top unit

below_is : (top : Option ℕ) (n : ℕ) → is_below top n ≡ true → IsBelow top n
below_is None n h = tt
below_is (Some t) n h = grind (arith, nat_tests)

pub lasting_is : (l : Lasting) (q : Query ℕ) (kept : Kept) → lasting_of l q ≡ Some kept → IsFor l q kept
lasting_is l q kept h = asked (is_query_below l.terms q) h
  where
    below : (v : Kept) (n : ℕ) (b : Bool) → is_below v.top n ≡ b → cond b (Some v) None ≡ Some kept
        → (v ≡ kept) × IsBelow kept.top n
    below v n true e g =
        let same : v ≡ kept = cc in
        (same, subst (λ k. IsBelow k.top n) same (below_is v.top n e))
    below v n false e g = absurd cc

    there : (n : ℕ) (o : Option Kept) → l.unit ≡ Some n → found_in l.slots (key_of q) ≡ o
        → option_and_then (for_unit n) o ≡ Some kept → IsFor l q kept
    there n None u e g = absurd cc
    there n (Some v) u e g =
        let p = below v n (is_below v.top n) refl g in
        record {
          stands = e ∙ ap Some p.0;
          unit = n;
          looks = u;
          below = p.1;
        }

    looked : (u : Option ℕ) → l.unit ≡ u → option_and_then (lasting_at l (key_of q)) u ≡ Some kept
        → IsFor l q kept
    looked None e g = absurd cc
    looked (Some n) e g = there n (found_in l.slots (key_of q)) e refl g

    asked : (b : Bool)
        → cond b (option_and_then (lasting_at l (key_of q)) l.unit) None ≡ Some kept
        → IsFor l q kept
    asked true g = looked l.unit refl g
    asked false g = absurd cc

-- where nothing outlasts its unit, nothing is found so
pub none_outlasts : (l : Lasting) (q : Query ℕ) → ((v : Kept) → Outlasts l (key_of q) v → ⊥)
    → lasting_of l q ≡ None
none_outlasts l q none = go (lasting_of l q) refl
  where
    go : (o : Option Kept) → lasting_of l q ≡ o → lasting_of l q ≡ None
    go None e = e
    go (Some kept) e = absurd (none kept (lasting_is l q kept e).stands)

-- the same of both
pub none_found : (memo : PrivateMemo) (q : Query ℕ) (far : Option Kept) (kept : Kept)
    → ((k : Key) (v : Kept) → (Outlasts memo.lasting k v → ⊥) × (Outlasts memo.staying k v → ⊥))
    → far ≡ Some kept → first_of (outlasting_of memo q) far ≡ Some kept
none_found memo q far kept none is =
    let lasting = none_outlasts memo.lasting q (λ v. (none (key_of q) v).0) in
    let staying = none_outlasts memo.staying q (λ v. (none (key_of q) v).1) in
    let nothing : outlasting_of memo q ≡ None = ap₂ first_of lasting staying in
    ap (λ o. first_of o far) nothing ∙ is
