-- The units that are marked, as a rising list.
use Rattle.std.proofs.Common.{ℕ, zero, suc, ◌≡◌, ◌+◌, ◌<◌, inl, inr, Bool, true, false, List, [], ◌∷◌, ◌++◌, length, get_or, Result, Ok, Err, sym, ap, subst, ◌∙◌, arith}
use Rattle.std.specs.Prelude.{IfOk}
use Rattle.std.specs.List.{Contains}
use Rattle.std.specs.List.Sorted.{IsStrictlyIncreasing}
use Rattle.std.proofs.lemmas.Bool.{cases_eq}
use Rattle.std.proofs.lemmas.List.{get_or_append_left, get_or_push, length_push}
use Rattle.std.proofs.lemmas.List.Elements.{Contains-get_or, Contains-append_left, Contains-push, Contains-push_cases}
use Rattle.lk_reach.specs.Axioms.{IsListOf}
use Rattle.lk_store.specs.declared.memory.NoMemory.{NoMemory}
use Rattle.lk_needs.specs.declared.needs.Needs.{Needs}
use Rattle.lk_needs.specs.Marks.{IsMarkedUnit, AreListedTo}
use Rattle.lk_needs.proofs.Lists.{contains_none}

rising_push : (ks : List ℕ) (i : ℕ) → IsStrictlyIncreasing ks → ((k : ℕ) → Contains ks k → k < i) → IsStrictlyIncreasing (ks ++ i ∷ [])
rising_push ks i r below = go
  where
    go : (k : ℕ) → k + 1 < length (ks ++ i ∷ []) → get_or (ks ++ i ∷ []) k 0 < get_or (ks ++ i ∷ []) (k + 1) 0
    go k l =
        let count = length_push ks i in
        let here : k < length ks = omega arith in
        let first : get_or (ks ++ i ∷ []) k 0 ≡ get_or ks k 0 = get_or_append_left ks (i ∷ []) 0 k here in
        elim (cases_eq (length ks) (k + 1)) [
          | inl e ↦
              let last : get_or (ks ++ i ∷ []) (k + 1) 0 ≡ i = get_or_push ks i 0 (k + 1) e in
              let lower : get_or ks k 0 < i = below (get_or ks k 0) (Contains-get_or ks k 0 here) in
              rw (first, last) lower
          | inr ne ↦
              let there : k + 1 < length ks = omega (arith, ne) in
              let next : get_or (ks ++ i ∷ []) (k + 1) 0 ≡ get_or ks (k + 1) 0 = get_or_append_left ks (i ∷ []) 0 (k + 1) there in
              rw (first, next) (r k there)
        ]

pub none_listed : (s : Needs) (ks : List ℕ) → ks ≡ [] → AreListedTo s 0 ks
none_listed s ks e = record {
  rising = λ k l. absurd (let c = ap length e in omega (arith, l, c));
  each = λ k h. absurd (contains_none k (subst (λ xs. Contains xs k) e h));
  all = λ k l h. absurd (omega (arith, l));
}

-- One unit more is looked at.
module _ (s : Needs) (i : ℕ) (ks : List ℕ) (a : AreListedTo s i ks) where
  pub not_listed : get_or s.units.items i false ≡ false → AreListedTo s (i + 1) ks
  not_listed none = record {
    rising = a.rising;
    each = λ k h. let e = a.each k h in (omega (arith, e.0), e.1);
    all = all;
  }
    where
      all : (k : ℕ) → k < i + 1 → IsMarkedUnit s k → Contains ks k
      all k l m = elim (cases_eq k i) [
        | inl e ↦ absurd (let c : true ≡ false = sym m.mark ∙ ap (λ j. get_or s.units.items j false) e ∙ none in cc)
        | inr ne ↦ a.all k (omega (arith, l, ne)) m
      ]

  pub one_listed : (ls : List ℕ) → get_or s.units.items i false ≡ true → ls ≡ ks ++ i ∷ [] → AreListedTo s (i + 1) ls
  one_listed ls here is = subst (AreListedTo s (i + 1)) (sym is) (record { rising = rising_push ks i a.rising (λ k h. (a.each k h).0); each = each; all = all })
    where
      each : (k : ℕ) → Contains (ks ++ i ∷ []) k → (k < i + 1) × IsMarkedUnit s k
      each k h = elim (Contains-push_cases ks i k h) [
        | inl c ↦ let e = a.each k c in (omega (arith, e.0), e.1)
        | inr e ↦ (omega (arith, e), subst (IsMarkedUnit s) e (record { mark = here }))
      ]

      all : (k : ℕ) → k < i + 1 → IsMarkedUnit s k → Contains (ks ++ i ∷ []) k
      all k l m = elim (cases_eq k i) [
        | inl e ↦ subst (Contains (ks ++ i ∷ [])) (sym e) (Contains-push ks i)
        | inr ne ↦ Contains-append_left ks (i ∷ []) k (a.all k (omega (arith, l, ne)) m)
      ]

pub all_listed : (s : Needs) (n : ℕ) (ks : List ℕ) → length s.units.items ≡ n → AreListedTo s n ks → IsListOf (IsMarkedUnit s) ks
all_listed s n ks count a = record { rising = a.rising; each = λ k h. (a.each k h).1; all = λ k m. a.all k (within k m) m }
  where
    marked_in : (bs : List Bool) (k : ℕ) → get_or bs k false ≡ true → k < length bs
    marked_in [] k h = absurd cc
    marked_in (b ∷ bs) zero h = omega arith
    marked_in (b ∷ bs) (suc k) h = let l = marked_in bs k h in omega arith

    within : (k : ℕ) → IsMarkedUnit s k → k < n
    within k m = let l = marked_in s.units.items k m.mark in omega (arith, l, count)

-- what holds of a value where it is there
pub if_ok : {A : Type 0} (P Q : A → Type 0) (r : Result A NoMemory) → ((x : A) → P x → Q x) → IfOk r P → IfOk r Q
if_ok P Q (Ok x) f h = f x h
if_ok P Q (Err e) f h = tt
