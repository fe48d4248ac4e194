-- Facts on keys.
use Rattle.std.proofs.Common.{◌≡◌, ℕ, Bool, true, false, List, rules, refl, sym, subst, ap, inl, inr, ◌⊎◌}
use Rattle.std.specs.Prelude.{Contains, Some}
use Rattle.std.specs.Map.{lookup}
use Rattle.lru.specs.LruCache.{LruCache, put_entries}
use Rattle.std.specs.Cmp.{IsEquivalence}
use Rattle.lru.proofs.CallerLemmas.{Contains-lookup, Contains-put_entries, lookup-put_entries}
use Rattle.lk_ask.specs.declared.query.Query.{Query}
use Rattle.lk_ask.specs.declared.query.Query.TheVariants as query
use Rattle.lk_memo.specs.declared.key.Key.{Key}
use Rattle.lk_memo.specs.Keys.{key_of, same_key}

pub key_exact : (a b : Key) → same_key a b ≡ true → a ≡ b
key_exact a b h = search rules

pub key_refl : (k : Key) → same_key k k ≡ true
key_refl k = search rules

both_ways : (x y : Bool) → (x ≡ true → y ≡ true) → (y ≡ true → x ≡ true) → x ≡ y
both_ways true y f g = sym (f refl)
both_ways false true f g = g refl
both_ways false false f g = refl

turned : (a b : Key) → same_key a b ≡ true → same_key b a ≡ true
turned a b h = subst (λ k. same_key k a ≡ true) (key_exact a b h) (key_refl a)

key_laws : IsEquivalence same_key
key_laws = record {
  refl = key_refl;
  symm = λ a b. both_ways (same_key a b) (same_key b a) (turned a b) (turned b a);
  congr = λ a b c h. rw (key_exact a b h) refl;
}

pair_is : {A B : Type 0} (e : A × B) (a : A) (b : B) → e.0 ≡ a → e.1 ≡ b → e ≡ (a, b)
pair_is (x, y) a b p q = let p' : x ≡ a = p in let q' : y ≡ b = q in cc

module _ {V : Type 0} where
  -- what stands under a key is one of the entries
  pub found_key : (es : List (Key × V)) (k : Key) (v : V) → lookup (same_key k) es ≡ Some v → Contains es (k, v)
  found_key es k v h =
      let p = Contains-lookup (same_key k) es v h in
      let same = key_exact k p.0 p.2 in
      rw same p.1

  pub put_key : (c : LruCache Key V) (k : Key) (v : V) (e : Key × V) → Contains (put_entries same_key c k v) e → Contains c.entries e ⊎ (e ≡ (k, v))
  put_key c k v e h = elim (Contains-put_entries same_key c k v e h) [
    | inl old ↦ inl old
    | inr new ↦ elim new.1 [
      | inl same ↦ inr (pair_is e k v same new.0)
      | inr there ↦ inr (pair_is e k v (sym (key_exact k e.0 there.2)) new.0)
    ]
  ]

-- what is kept is found
pub put_found : {V : Type 0} (c : LruCache Key V) (k : Key) (v : V) → lookup (same_key k) (put_entries same_key c k v) ≡ Some v
put_found c k v = lookup-put_entries same_key c k v key_laws

-- a key is of one question
pub key_of-injective : (p q : Query ℕ) → key_of p ≡ key_of q → p ≡ q
key_of-injective (query.Core a) (query.Core b) h = let e : a ≡ b = ap (λ (k : Key). k.first) h in cc
key_of-injective (query.Whnf a) (query.Whnf b) h = let e : a ≡ b = ap (λ (k : Key). k.first) h in cc
key_of-injective (query.Infer a) (query.Infer b) h = let e : a ≡ b = ap (λ (k : Key). k.first) h in cc
key_of-injective (query.Same a b) (query.Same c d) h = let e : a ≡ c = ap (λ (k : Key). k.first) h in let f : b ≡ d = ap (λ (k : Key). k.second) h in cc
key_of-injective p q h = let e = ap (λ (k : Key). k.kind) h in absurd (cc)
