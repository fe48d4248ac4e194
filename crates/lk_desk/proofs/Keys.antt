-- Facts on questions as keys, and on what stands under them.
use Rattle.std.proofs.Common.{◌≡◌, ℕ, zero, suc, ◌+◌, ◌<◌, ◌≤◌, Bool, true, false, List, [], ◌∷◌, length, rules, refl, sym, ap, subst, arith, inl, inr, ◌⊎◌}
use Rattle.std.specs.Prelude.{Contains, Option, Some, None, is_some, cond, if◌then◌else◌}
use Rattle.std.specs.Option.{IsSome, MatchOption}
use Rattle.std.specs.Map.{set_value}
use Rattle.std.specs.List.Sorted.{IsPermutation}
use Rattle.std.proofs.lemmas.List.Sorted.{Contains-permutation, IsPermutation-sym}
use Rattle.lk_desk.specs.declared.entry.Entry.{Entry}
use Rattle.lk_memo.specs.declared.key.Key.{Key}
use Rattle.lk_desk.specs.Shards.{same_key, under, IsPut, HasRoom}

-- two keys that the test takes for the same are the same
pub key_exact : (a b : Key) → same_key a b ≡ true → a ≡ b
key_exact a b h = search rules

pair_is : {A B : Type 0} (e : A × B) (a : A) (b : B) → e.0 ≡ a → e.1 ≡ b → e ≡ (a, b)
pair_is (x, y) a b p q = let p' : x ≡ a = p in let q' : y ≡ b = q in cc

more : {X : Type 0} (y x : X) (xs : List X) → Contains xs x → Contains (y ∷ xs) x
more y x xs h = (suc h.0, omega (arith, h.1), h.2)

less : {X : Type 0} (y x : X) (xs : List X) → Contains (y ∷ xs) x → Contains xs x ⊎ (x ≡ y)
less y x xs (zero, lt, e) = inr (sym e)
less y x xs (suc k, lt, e) = inl (k, omega (arith, lt), e)

module _ {K V : Type 0} (test : K → Bool) (w : V) where
  -- an entry after a value is changed stood there before, or is the changed one
  pub set_was : (es : List (K × V)) (e : K × V) → Contains (set_value test es w) e → Contains es e ⊎ ((test e.0 ≡ true) × (e.1 ≡ w))
  set_was [] e h = inl h
  set_was (x ∷ xs) e h = parts (set_was xs e) (test x.0) refl h
    where
      changed : test x.0 ≡ true → Contains xs e ⊎ (e ≡ (x.0, w)) → Contains (x ∷ xs) e ⊎ ((test e.0 ≡ true) × (e.1 ≡ w))
      changed is (inl old) = inl (more x e xs old)
      changed is (inr new) = inr (rw new is, ap (λ (p : K × V). p.1) new)

      entry : (Contains (set_value test xs w) e → Contains xs e ⊎ ((test e.0 ≡ true) × (e.1 ≡ w))) → Contains (set_value test xs w) e ⊎ (e ≡ x) → Contains (x ∷ xs) e ⊎ ((test e.0 ≡ true) × (e.1 ≡ w))
      entry rec (inl old) = elim (rec old) [ inl there ↦ inl (more x e xs there) | inr new ↦ inr new ]
      entry rec (inr first) = inl (0, omega arith, sym first)

      parts : (Contains (set_value test xs w) e → Contains xs e ⊎ ((test e.0 ≡ true) × (e.1 ≡ w))) → (b : Bool) → test x.0 ≡ b → Contains (cond b ((x.0, w) ∷ xs) (x ∷ set_value test xs w)) e → Contains (x ∷ xs) e ⊎ ((test e.0 ≡ true) × (e.1 ≡ w))
      parts rec true is h = changed is (less (x.0, w) e xs h)
      parts rec false is h = entry rec (less x e (set_value test xs w) h)

-- an entry after an answer is put stood there before, or is the new one
pub put_was : (m n : List (Key × Entry)) (k : Key) (v : Entry) (old : Option Entry) → MatchOption old (IsPermutation ((k, v) ∷ m) n) (λ _. n ≡ set_value (same_key k) m v)
    → (e : Key × Entry) → Contains n e → Contains m e ⊎ (e ≡ (k, v))
put_was m n k v None put e h = less (k, v) e m (Contains-permutation n ((k, v) ∷ m) e (IsPermutation-sym ((k, v) ∷ m) n put) h)
put_was m n k v (Some x) put e h = elim (set_was (same_key k) v m e (rw put at h)) [
  | inl there ↦ inl there
  | inr new ↦ inr (pair_is e k v (sym (key_exact k e.0 new.0)) new.1)
]

few_after : (before after : ℕ) (old : Option Entry) → (before < 4096) ⊎ IsSome old → after ≡ before + (if is_some old then 0 else 1) → before ≤ 4096 → after ≤ 4096
few_after before after None (inl lt) e le = omega (arith, e, lt)
few_after before after None (inr some) e le = absurd (let bad : false ≡ true = some in cc)
few_after before after (Some x) room e le = omega (arith, e, le)

-- what `insert` says of a map in which there was room
pub put_is : (m n : List (Key × Entry)) (k : Key) (v : Entry) (old : Option Entry) → HasRoom m k → old ≡ under k m
    → under k n ≡ Some v → ((q : Key) → same_key k q ≡ false → under q n ≡ under q m)
    → MatchOption old (IsPermutation ((k, v) ∷ m) n) (λ _. n ≡ set_value (same_key k) m v) → length n ≡ length m + (if is_some old then 0 else 1)
    → IsPut m n k v
put_is m n k v old room was here others put len = record {
  stands = here;
  others = others;
  entries = put_was m n k v old put;
  room = room;
  few = few_after (length m) (length n) old (subst (λ o. (length m < 4096) ⊎ IsSome o) (sym was) room) len;
}
