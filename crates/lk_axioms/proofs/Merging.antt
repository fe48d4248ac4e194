-- Two rising lists that are made one, step by step.
use Rattle.std.proofs.Common.{ℕ, ◌≡◌, ◌+◌, ◌<◌, ◌≤◌, ◌⊎◌, inl, inr, List, [], ◌∷◌, ◌++◌, length, get_or, drop, min, append_assoc, refl, sym, subst, arith}
use Rattle.std.specs.List.{Contains}
use Rattle.std.specs.List.Sorted.{IsStrictlyIncreasing}
use Rattle.std.proofs.lemmas.List.{append-nil, drop_more, drop_all}
use Rattle.std.proofs.lemmas.List.Elements.{Contains-append_left, Contains-append_right, Contains-append_cases, Contains-push, Contains-push_cases}
use Rattle.lk_reach.proofs.Lists.{contains_cases, contains_later}
use Rattle.lk_axioms.specs.Lists.{IsUnion}
use Rattle.lk_axioms.proofs.Rising.{Rises, rises_from, rising, rises_front, rises_back, rises_on}

-- a and b are left of xs and ys, and what was taken of them is in zs
pub record IsMerging (xs ys zs a b : List ℕ) : Type 0 where
  pub a_rises : Rises (zs ++ a)
  pub b_rises : Rises (zs ++ b)
  pub each : (k : ℕ) → Contains zs k → Contains xs k ⊎ Contains ys k
  pub a_left : (k : ℕ) → Contains a k → Contains xs k
  pub b_left : (k : ℕ) → Contains b k → Contains ys k
  pub xs_right : (k : ℕ) → Contains xs k → Contains zs k ⊎ Contains a k
  pub ys_right : (k : ℕ) → Contains ys k → Contains zs k ⊎ Contains b k

none : (k : ℕ) → Contains [] k → ⊥
none k c = omega (arith, c.1)

here : (x : ℕ) (xs : List ℕ) → Contains (x ∷ xs) x
here x xs = (0, omega arith, refl)

pub begins : (xs ys : List ℕ) → IsStrictlyIncreasing xs → IsStrictlyIncreasing ys → IsMerging xs ys [] xs ys
begins xs ys h i = record {
  a_rises = rises_from xs h;
  b_rises = rises_from ys i;
  each = λ k c. absurd (none k c);
  a_left = λ k c. c;
  b_left = λ k c. c;
  xs_right = λ k c. inr c;
  ys_right = λ k c. inr c;
}

-- the first of a goes over
over : (x : ℕ) (a zs : List ℕ) (k : ℕ) → Contains zs k ⊎ Contains (x ∷ a) k → Contains (zs ++ x ∷ []) k ⊎ Contains a k
over x a zs k (inl c) = inl (Contains-append_left zs (x ∷ []) k c)
over x a zs k (inr c) = elim (contains_cases x a k c) [ inl e ↦ inl (subst (Contains (zs ++ x ∷ [])) e (Contains-push zs x)) | inr d ↦ inr d ]

kept : (x : ℕ) (b zs : List ℕ) (k : ℕ) → Contains zs k ⊎ Contains b k → Contains (zs ++ x ∷ []) k ⊎ Contains b k
kept x b zs k (inl c) = inl (Contains-append_left zs (x ∷ []) k c)
kept x b zs k (inr c) = inr c

pushed : (xs ys zs : List ℕ) (x : ℕ) → ((k : ℕ) → Contains zs k → Contains xs k ⊎ Contains ys k) → Contains xs x ⊎ Contains ys x → (k : ℕ) → Contains (zs ++ x ∷ []) k → Contains xs k ⊎ Contains ys k
pushed xs ys zs x h i k c = elim (Contains-push_cases zs x k c) [ inl d ↦ h k d | inr e ↦ subst (λ n. Contains xs n ⊎ Contains ys n) e i ]

take_first : (xs ys zs : List ℕ) (x : ℕ) (a : List ℕ) (y : ℕ) (b : List ℕ) → x < y → IsMerging xs ys zs (x ∷ a) (y ∷ b) → IsMerging xs ys (zs ++ x ∷ []) a (y ∷ b)
take_first xs ys zs x a y b l m = record {
  a_rises = subst Rises (sym (append_assoc zs (x ∷ []) a)) m.a_rises;
  b_rises = subst Rises (sym (append_assoc zs (x ∷ []) (y ∷ b))) (rises_on zs x y b (rises_front zs x a m.a_rises) l (rises_back zs (y ∷ b) m.b_rises));
  each = pushed xs ys zs x m.each (inl (m.a_left x (here x a)));
  a_left = λ k c. m.a_left k (contains_later x a k c);
  b_left = m.b_left;
  xs_right = λ k c. over x a zs k (m.xs_right k c);
  ys_right = λ k c. kept x (y ∷ b) zs k (m.ys_right k c);
}

take_second : (xs ys zs : List ℕ) (x : ℕ) (a : List ℕ) (y : ℕ) (b : List ℕ) → y < x → IsMerging xs ys zs (x ∷ a) (y ∷ b) → IsMerging xs ys (zs ++ y ∷ []) (x ∷ a) b
take_second xs ys zs x a y b l m = record {
  a_rises = subst Rises (sym (append_assoc zs (y ∷ []) (x ∷ a))) (rises_on zs y x a (rises_front zs y b m.b_rises) l (rises_back zs (x ∷ a) m.a_rises));
  b_rises = subst Rises (sym (append_assoc zs (y ∷ []) b)) m.b_rises;
  each = pushed xs ys zs y m.each (inr (m.b_left y (here y b)));
  a_left = m.a_left;
  b_left = λ k c. m.b_left k (contains_later y b k c);
  xs_right = λ k c. kept y (x ∷ a) zs k (m.xs_right k c);
  ys_right = λ k c. over y b zs k (m.ys_right k c);
}

take_both : (xs ys zs : List ℕ) (x : ℕ) (a b : List ℕ) → IsMerging xs ys zs (x ∷ a) (x ∷ b) → IsMerging xs ys (zs ++ x ∷ []) a b
take_both xs ys zs x a b m = record {
  a_rises = subst Rises (sym (append_assoc zs (x ∷ []) a)) m.a_rises;
  b_rises = subst Rises (sym (append_assoc zs (x ∷ []) b)) m.b_rises;
  each = pushed xs ys zs x m.each (inl (m.a_left x (here x a)));
  a_left = λ k c. m.a_left k (contains_later x a k c);
  b_left = λ k c. m.b_left k (contains_later x b k c);
  xs_right = λ k c. over x a zs k (m.xs_right k c);
  ys_right = λ k c. over x b zs k (m.ys_right k c);
}

-- at places i and j
abbrev pub IsMergingAt : (xs ys zs : List ℕ) → ℕ → ℕ → Type 0
IsMergingAt xs ys zs i j = IsMerging xs ys zs (drop i xs) (drop j ys)

module _ (xs ys zs : List ℕ) (i j : ℕ) (il : i < length xs) (jl : j < length ys) (m : IsMergingAt xs ys zs i j) where
  opened : IsMerging xs ys zs (get_or xs i 0 ∷ drop (i + 1) xs) (get_or ys j 0 ∷ drop (j + 1) ys)
  opened = subst (λ b. IsMerging xs ys zs (get_or xs i 0 ∷ drop (i + 1) xs) b) (drop_more ys j 0 jl) (subst (λ a. IsMerging xs ys zs a (drop j ys)) (drop_more xs i 0 il) m)

  pub first_less : get_or xs i 0 < get_or ys j 0 → IsMergingAt xs ys (zs ++ get_or xs i 0 ∷ []) (i + 1) j
  first_less l = subst (λ b. IsMerging xs ys (zs ++ get_or xs i 0 ∷ []) (drop (i + 1) xs) b) (sym (drop_more ys j 0 jl)) (take_first xs ys zs (get_or xs i 0) (drop (i + 1) xs) (get_or ys j 0) (drop (j + 1) ys) l opened)

  pub second_less : get_or ys j 0 < get_or xs i 0 → IsMergingAt xs ys (zs ++ get_or ys j 0 ∷ []) i (j + 1)
  second_less l = subst (λ a. IsMerging xs ys (zs ++ get_or ys j 0 ∷ []) a (drop (j + 1) ys)) (sym (drop_more xs i 0 il)) (take_second xs ys zs (get_or xs i 0) (drop (i + 1) xs) (get_or ys j 0) (drop (j + 1) ys) l opened)

  pub none_less : get_or xs i 0 ≡ get_or ys j 0 → IsMergingAt xs ys (zs ++ get_or xs i 0 ∷ []) (i + 1) (j + 1)
  none_less e = take_both xs ys zs (get_or xs i 0) (drop (i + 1) xs) (drop (j + 1) ys) (subst (λ y. IsMerging xs ys zs (get_or xs i 0 ∷ drop (i + 1) xs) (y ∷ drop (j + 1) ys)) (sym e) opened)

  abbrev x : ℕ
  x = get_or xs i 0

  abbrev y : ℕ
  y = get_or ys j 0

  -- the least of the two goes over
  pub least : (z i' j' : ℕ) → z ≡ min x y → ((x ≤ y) × (i' ≡ i + 1)) ⊎ ((y < x) × (i' ≡ i)) → ((y ≤ x) × (j' ≡ j + 1)) ⊎ ((x < y) × (j' ≡ j)) → IsMergingAt xs ys (zs ++ z ∷ []) i' j'
  least z i' j' e (inl a) (inl b) = let w : z ≡ x = omega (arith, e, a.0, b.0) in let s : x ≡ y = omega (arith, a.0, b.0) in rw (w, a.1, b.1) (none_less s)
  least z i' j' e (inl a) (inr b) = let w : z ≡ x = omega (arith, e, b.0) in rw (w, a.1, b.1) (first_less b.0)
  least z i' j' e (inr a) (inl b) = let w : z ≡ y = omega (arith, e, a.0) in rw (w, a.1, b.1) (second_less a.0)
  least z i' j' e (inr a) (inr b) = absurd (omega (arith, a.0, b.0))

-- at the end
rest_of_second : (xs ys zs b : List ℕ) → IsMerging xs ys zs [] b → IsStrictlyIncreasing (zs ++ b) × IsUnion xs ys (zs ++ b)
rest_of_second xs ys zs b m = (rising (zs ++ b) m.b_rises, record { each = each; left = left; right = right })
  where
    each : (k : ℕ) → Contains (zs ++ b) k → Contains xs k ⊎ Contains ys k
    each k c = elim (Contains-append_cases zs b k c) [ inl d ↦ m.each k d | inr d ↦ inr (m.b_left k d) ]

    left : (k : ℕ) → Contains xs k → Contains (zs ++ b) k
    left k c = elim (m.xs_right k c) [ inl d ↦ Contains-append_left zs b k d | inr d ↦ absurd (none k d) ]

    right : (k : ℕ) → Contains ys k → Contains (zs ++ b) k
    right k c = elim (m.ys_right k c) [ inl d ↦ Contains-append_left zs b k d | inr d ↦ Contains-append_right zs b k d ]

rest_of_first : (xs ys zs a : List ℕ) → IsMerging xs ys zs a [] → IsStrictlyIncreasing (zs ++ a) × IsUnion xs ys (zs ++ a)
rest_of_first xs ys zs a m = (rising (zs ++ a) m.a_rises, record { each = each; left = left; right = right })
  where
    each : (k : ℕ) → Contains (zs ++ a) k → Contains xs k ⊎ Contains ys k
    each k c = elim (Contains-append_cases zs a k c) [ inl d ↦ m.each k d | inr d ↦ inl (m.a_left k d) ]

    left : (k : ℕ) → Contains xs k → Contains (zs ++ a) k
    left k c = elim (m.xs_right k c) [ inl d ↦ Contains-append_left zs a k d | inr d ↦ Contains-append_right zs a k d ]

    right : (k : ℕ) → Contains ys k → Contains (zs ++ a) k
    right k c = elim (m.ys_right k c) [ inl d ↦ Contains-append_left zs a k d | inr d ↦ absurd (none k d) ]

pub ends : (xs ys zs : List ℕ) (i j : ℕ) → (length xs ≤ i) ⊎ (length ys ≤ j) → IsMergingAt xs ys zs i j
    → IsStrictlyIncreasing ((zs ++ drop i xs) ++ drop j ys) × IsUnion xs ys ((zs ++ drop i xs) ++ drop j ys)
ends xs ys zs i j (inl l) m =
    let e : drop i xs ≡ [] = drop_all i xs l in
    let n : IsMerging xs ys zs [] (drop j ys) = subst (λ a. IsMerging xs ys zs a (drop j ys)) e m in
    rw (e, append-nil) (rest_of_second xs ys zs (drop j ys) n)
ends xs ys zs i j (inr l) m =
    let e : drop j ys ≡ [] = drop_all j ys l in
    let n : IsMerging xs ys zs (drop i xs) [] = subst (λ b. IsMerging xs ys zs (drop i xs) b) e m in
    rw (e, append-nil) (rest_of_first xs ys zs (drop i xs) n)
