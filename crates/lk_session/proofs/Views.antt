-- Lists of views in which one is changed or added.
use Rattle.std.proofs.Common.{◌≡◌, ◌≢◌, ℕ, zero, suc, ◌+◌, ◌<◌, ◌≤◌, List, [], ◌∷◌, ◌++◌, length, get_or, sum_by, refl, sym, ap, ◌∙◌, subst, arith, set, inl, inr, zero-add}
use Rattle.std.proofs.lemmas.List.Sums.{sum_by-set, sum_by-cons, sum_by-append}
use mathlib.Core.Option.{some}
use lib.ListN.{get_elem?}
use Rattle.atomic_table.proofs.Lists.{at_set, at_snoc}

module _ {V : Type 0} where
  -- a place that is there, in both words
  pub there : (l : List V) (i : ℕ) (a : V) → get_elem? l i ≡ some a → (i < length l) × (get_or l i a ≡ a)
  there [] i a e = absurd cc
  there (x ∷ l) zero a e = (omega arith, cc)
  there (x ∷ l) (suc i) a e = let r = there l i a e in (omega (arith, r.0), r.1)

  -- one view is changed in a sum
  pub sum_set : (f : V → ℕ) (vs : List V) (id : ℕ) (v w : V) → get_elem? vs id ≡ some v → sum_by f (set vs id w) + f v ≡ sum_by f vs + f w
  sum_set f vs id v w e = let t = there vs id v e in ap (λ y. sum_by f (set vs id w) + f y) (sym t.1) ∙ sum_by-set f vs id w v t.0

  -- one is changed and one is added
  pub sum_added : (f : V → ℕ) (vs : List V) (id : ℕ) (v w u : V) → get_elem? vs id ≡ some v → sum_by f (set vs id w ++ u ∷ []) + f v ≡ sum_by f vs + f w + f u
  sum_added f vs id v w u e =
      let a : sum_by f (set vs id w ++ u ∷ []) ≡ sum_by f (set vs id w) + f u = sum_by-append f (set vs id w) (u ∷ []) ∙ ap (λ k. sum_by f (set vs id w) + k) (zero-add (f u)) in
      let b = sum_set f vs id v w e in omega arith

  -- two are changed
  pub sum_two : (f : V → ℕ) (vs : List V) (id other : ℕ) (v both w spent : V) → get_elem? vs id ≡ some v → get_elem? (set vs id both) other ≡ some w
      → sum_by f (set (set vs id both) other spent) + f v + f w ≡ sum_by f vs + f both + f spent
  sum_two f vs id other v both w spent a b =
      let p = sum_set f vs id v both a in let q = sum_set f (set vs id both) other w spent b in omega arith

  -- what is so of each view, once one is changed, or one is added
  pub each_set : (P : V → Type 0) (vs : List V) (id : ℕ) (w : V) → ((i : ℕ) (u : V) → get_elem? vs i ≡ some u → P u) → P w → (i : ℕ) (u : V) → get_elem? (set vs id w) i ≡ some u → P u
  each_set P vs id w all new i u at = elim (at_set vs id i w u at) [
    | inl h ↦ subst P h.1 new
    | inr h ↦ all i u h.1
  ]

  pub each_added : (P : V → Type 0) (vs : List V) (w : V) → ((i : ℕ) (u : V) → get_elem? vs i ≡ some u → P u) → P w → (i : ℕ) (u : V) → get_elem? (vs ++ w ∷ []) i ≡ some u → P u
  each_added P vs w all new i u at = elim (at_snoc vs w u i at) [
    | inl h ↦ all i u h
    | inr h ↦ subst P h new
  ]

  -- a sum is no less than one of its parts, and no sum is above one whose parts are no less
  pub part_le : (f : V → ℕ) (vs : List V) (id : ℕ) (v : V) → get_elem? vs id ≡ some v → f v ≤ sum_by f vs
  part_le f [] id v e = absurd cc
  part_le f (x ∷ vs) zero v e = let same : x ≡ v = cc in let h : f x ≡ f v = ap f same in rw (sum_by-cons f x vs) (omega arith)
  part_le f (x ∷ vs) (suc id) v e = let h = part_le f vs id v e in rw (sum_by-cons f x vs) (omega arith)

  pub sum_le : (f g : V → ℕ) (vs : List V) → ((id : ℕ) (v : V) → get_elem? vs id ≡ some v → f v ≤ g v) → sum_by f vs ≤ sum_by g vs
  sum_le f g [] each = omega arith
  sum_le f g (v ∷ vs) each =
      let here : f v ≤ g v = each 0 v refl in
      let more : sum_by f vs ≤ sum_by g vs = sum_le f g vs (λ id. each (suc id)) in
      rw (sum_by-cons f v vs, sum_by-cons g v vs) (omega arith)

module _ {V : Type 0} (Q : ℕ → V → Type 0) where
  -- what is so of each view and its number, once one is changed, two are, or one is added
  pub each_one : (vs : List V) (id : ℕ) (w : V) → ((i : ℕ) (u : V) → i ≢ id → get_elem? vs i ≡ some u → Q i u) → Q id w → (i : ℕ) (u : V) → get_elem? (set vs id w) i ≡ some u → Q i u
  each_one vs id w others new i u at = elim (at_set vs id i w u at) [
    | inl h ↦ subst (λ (j : ℕ). Q j u) (sym h.0) (subst (Q id) h.1 new)
    | inr h ↦ others i u h.0 h.1
  ]

  pub each_two : (vs : List V) (id other : ℕ) (w spent : V) → ((i : ℕ) (u : V) → i ≢ id → i ≢ other → get_elem? vs i ≡ some u → Q i u) → Q id w → Q other spent
      → (i : ℕ) (u : V) → get_elem? (set (set vs id w) other spent) i ≡ some u → Q i u
  each_two vs id other w spent others new old i u at = elim (at_set (set vs id w) other i spent u at) [
    | inl h ↦ subst (λ (j : ℕ). Q j u) (sym h.0) (subst (Q other) h.1 old)
    | inr h ↦ elim (at_set vs id i w u h.1) [
      | inl k ↦ subst (λ (j : ℕ). Q j u) (sym k.0) (subst (Q id) k.1 new)
      | inr k ↦ others i u k.0 h.0 k.1
    ]
  ]

  pub each_more : (vs : List V) (id : ℕ) (w new : V) → ((i : ℕ) (u : V) → i ≢ id → get_elem? vs i ≡ some u → Q i u) → Q id w → ((i : ℕ) → Q i new)
      → (i : ℕ) (u : V) → get_elem? (set vs id w ++ new ∷ []) i ≡ some u → Q i u
  each_more vs id w new others changed added i u at = elim (at_snoc (set vs id w) new u i at) [
    | inl h ↦ each_one vs id w others changed i u h
    | inr h ↦ subst (Q i) h (added i)
  ]
