-- Lists of names.
use Rattle.std.proofs.Common.{ℕ, zero, suc, ◌≡◌, ◌≤◌, Bool, true, false, List, [], ◌∷◌, ◌++◌, take, drop, length, refl, sym, ◌∙◌, arith, inl, inr, ◌⊎◌, if◌then◌else◌}
use Rattle.lk_tree.specs.Tree.{Name, Level, zero_level, succ_level, max_level, imax_level, param}
use Rattle.lk_tree.specs.Mentions.{same_name, is_one_of}
use Rattle.lk_tree.specs.LevelTest.{distinct, params_of, right_params}
use Rattle.lk_tree.proofs.LevelTests.{bool_cases, name_is, name_same, in_cases, in_first, in_rest, in_left, in_right, if_cases}
use Rattle.lk_level_order.specs.Parameters.{IsWithin, AreDifferent}

pub within_itself : (xs : List Name) → IsWithin xs xs
within_itself xs = record { each = λ n h. h }

pub within_trans : (xs ys zs : List Name) → IsWithin xs ys → IsWithin ys zs → IsWithin xs zs
within_trans xs ys zs a b = record { each = λ n h. b.each n (a.each n h) }

pub within_left : (xs ys zs : List Name) → IsWithin (xs ++ ys) zs → IsWithin xs zs
within_left xs ys zs a = record { each = λ n h. a.each n (in_left xs ys n h) }

pub within_right : (xs ys zs : List Name) → IsWithin (xs ++ ys) zs → IsWithin ys zs
within_right xs ys zs a = record { each = λ n h. a.each n (in_right xs ys n h) }

pub in_either : (xs ys : List Name) (n : Name) → is_one_of (xs ++ ys) n ≡ true → (is_one_of xs n ≡ true) ⊎ (is_one_of ys n ≡ true)
in_either [] ys n h = inr h
in_either (x ∷ xs) ys n h = elim (in_cases x (xs ++ ys) n h) [
  | inl e ↦ inl (in_first x xs n e)
  | inr e ↦ elim (in_either xs ys n e) [ inl a ↦ inl (in_rest x xs n a) | inr b ↦ inr b ]
]

pub within_both : (xs ys zs : List Name) → IsWithin xs zs → IsWithin ys zs → IsWithin (xs ++ ys) zs
within_both xs ys zs a b = record { each = λ n h. elim (in_either xs ys n h) [ inl x ↦ a.each n x | inr y ↦ b.each n y ] }

pub within_beside : (ws xs ys zs : List Name) → IsWithin ws ys → IsWithin xs zs → IsWithin (ws ++ xs) (ys ++ zs)
within_beside ws xs ys zs a b = record {
  each = λ n h. elim (in_either ws xs n h) [ inl x ↦ in_left ys zs n (a.each n x) | inr y ↦ in_right ys zs n (b.each n y) ];
}

pub in_not : (xs : List Name) (n : Name) → is_one_of xs n ≡ true → is_one_of xs n ≡ false → ⊥
in_not xs n h i = go (is_one_of xs n) h i
  where
    go : (b : Bool) → b ≡ true → b ≡ false → ⊥
    go true h i = absurd cc
    go false h i = absurd cc

-- the names but one
without : Name → List Name → List Name
without n [] = []
without n (x ∷ xs) = if same_name x n then without n xs else x ∷ without n xs

in_without : (n : Name) (xs : List Name) (m : Name) → (n ≡ m → ⊥) → is_one_of xs m ≡ true → is_one_of (without n xs) m ≡ true
unfolding without
in_without n [] m other h = absurd cc
in_without n (x ∷ xs) m other h = elim (in_cases x xs m h) [
  | inl e ↦ elim (if_cases (same_name x n) (without n xs) (x ∷ without n xs)) [
    | inl a ↦ absurd (other (sym (name_is x n a.0) ∙ name_is x m e))
    | inr b ↦ rw b.1 (in_first x (without n xs) m e)
  ]
  | inr e ↦ elim (if_cases (same_name x n) (without n xs) (x ∷ without n xs)) [
    | inl a ↦ rw a.1 (in_without n xs m other e)
    | inr b ↦ rw b.1 (in_rest x (without n xs) m (in_without n xs m other e))
  ]
]

without_in : (n : Name) (xs : List Name) (m : Name) → is_one_of (without n xs) m ≡ true → is_one_of xs m ≡ true
unfolding without
without_in n [] m h = h
without_in n (x ∷ xs) m h = elim (if_cases (same_name x n) (without n xs) (x ∷ without n xs)) [
  | inl a ↦ in_rest x xs m (without_in n xs m (rw a.1 at h))
  | inr b ↦ elim (in_cases x (without n xs) m (rw b.1 at h)) [
    | inl e ↦ in_first x xs m e
    | inr e ↦ in_rest x xs m (without_in n xs m e)
  ]
]

distinct_new : (x : Name) (xs : List Name) → is_one_of xs x ≡ false → distinct (x ∷ xs) ≡ suc (distinct xs)
distinct_new x xs h = rw h refl

distinct_old : (x : Name) (xs : List Name) → is_one_of xs x ≡ true → distinct (x ∷ xs) ≡ distinct xs
distinct_old x xs h = rw h refl

pub differs : (x n : Name) → same_name x n ≡ false → x ≡ n → ⊥
differs x n f s = clash (same_name x n) (let t : same_name x x ≡ true = name_same x in rw (← s) t) f
  where
    clash : (b : Bool) → b ≡ true → b ≡ false → ⊥
    clash true h i = absurd cc
    clash false h i = absurd cc

-- a name that stands there is left out once
without_le : (n : Name) (xs : List Name) → distinct (without n xs) ≤ distinct xs
unfolding without
without_le n [] = omega arith
without_le n (x ∷ xs) = elim (if_cases (same_name x n) (without n xs) (x ∷ without n xs)) [
  | inl a ↦ rw a.1 (elim (bool_cases (is_one_of xs x)) [
    | inl e ↦ rw (distinct_old x xs e) (without_le n xs)
    | inr e ↦ let r = without_le n xs in rw (distinct_new x xs e) (omega arith)
  ])
  | inr b ↦ rw b.1 (elim (bool_cases (is_one_of (without n xs) x)) [
    | inl e ↦ rw (distinct_old x (without n xs) e) (rw (distinct_old x xs (without_in n xs x e)) (without_le n xs))
    | inr e ↦ rw (distinct_new x (without n xs) e) (elim (bool_cases (is_one_of xs x)) [
      | inl i ↦ absurd (in_not (without n xs) x (in_without n xs x (λ s. differs x n b.0 (sym s)) i) e)
      | inr i ↦ let r = without_le n xs in rw (distinct_new x xs i) (omega arith)
    ])
  ])
]

without_less : (n : Name) (xs : List Name) → is_one_of xs n ≡ true → suc (distinct (without n xs)) ≤ distinct xs
unfolding without
without_less n [] h = absurd cc
without_less n (x ∷ xs) h = elim (if_cases (same_name x n) (without n xs) (x ∷ without n xs)) [
  | inl a ↦ rw a.1 (elim (bool_cases (is_one_of xs x)) [
    | inl e ↦ rw (distinct_old x xs e) (without_less n xs (rw (name_is x n a.0) at e))
    | inr e ↦ let r = without_le n xs in rw (distinct_new x xs e) (omega arith)
  ])
  | inr b ↦ rw b.1 (
      let i : is_one_of xs n ≡ true = elim (in_cases x xs n h) [ inl s ↦ absurd (differs x n b.0 (name_is x n s)) | inr i ↦ i ] in
      let r = without_less n xs i in
      elim (bool_cases (is_one_of (without n xs) x)) [
        | inl e ↦ rw (distinct_old x (without n xs) e) (rw (distinct_old x xs (without_in n xs x e)) r)
        | inr e ↦ rw (distinct_new x (without n xs) e) (elim (bool_cases (is_one_of xs x)) [
          | inl j ↦ absurd (in_not (without n xs) x (in_without n xs x (λ s. differs x n b.0 (sym s)) j) e)
          | inr j ↦ rw (distinct_new x xs j) (omega arith)
        ])
      ])
]

-- a list that stands in another has no more different names
distinct_le : (xs ys : List Name) → IsWithin xs ys → distinct xs ≤ distinct ys
distinct_le [] ys a = omega arith
distinct_le (x ∷ xs) ys a = elim (bool_cases (is_one_of xs x)) [
  | inl e ↦ rw (distinct_old x xs e) (distinct_le xs ys (record { each = λ n h. a.each n (in_rest x xs n h) }))
  | inr e ↦
      let rest : IsWithin xs (without x ys) = record { each = λ n h. in_without x ys n (λ s. in_not xs x (rw (← s) at h) e) (a.each n (in_rest x xs n h)) } in
      let r = distinct_le xs (without x ys) rest in
      let q = without_less x ys (a.each x (in_first x xs x (name_same x))) in
      rw (distinct_new x xs e) (omega arith)
]

distinct_all : (ns : List Name) → AreDifferent ns → distinct ns ≡ length ns
distinct_all [] d = refl
distinct_all (n ∷ ns) d = let r = distinct_all ns d.1 in rw (distinct_new n ns d.0) (omega arith)

-- a list that has the names of another, each once, counts its different names
pub distinct_counts : (ns xs : List Name) → AreDifferent ns → IsWithin ns xs → IsWithin xs ns → distinct xs ≡ length ns
distinct_counts ns xs d a b = let p = distinct_le ns xs a in let q = distinct_le xs ns b in let r = distinct_all ns d in omega arith

-- the names of the front and of the rest
pub different_front : (k : ℕ) (ns : List Name) (n : Name) → AreDifferent ns → is_one_of (take k ns) n ≡ true → is_one_of (drop k ns) n ≡ true → ⊥
different_front zero ns n d h i = absurd cc
different_front (suc k) [] n d h i = absurd cc
different_front (suc k) (x ∷ ns) n d h i = elim (in_cases x (take k ns) n h) [
  | inl e ↦ let j : is_one_of ns x ≡ true = in_drop k ns x (let s : x ≡ n = name_is x n e in rw s i) in in_not ns x j d.0
  | inr e ↦ different_front k ns n d.1 e i
]
  where
    in_drop : (k : ℕ) (ns : List Name) (n : Name) → is_one_of (drop k ns) n ≡ true → is_one_of ns n ≡ true
    in_drop zero ns n h = h
    in_drop (suc k) [] n h = absurd cc
    in_drop (suc k) (x ∷ ns) n h = in_rest x ns n (in_drop k ns n h)

pub different_take : (k : ℕ) (ns : List Name) → AreDifferent ns → AreDifferent (take k ns)
different_take zero ns d = tt
different_take (suc k) [] d = tt
different_take (suc k) (n ∷ ns) d = (
  elim (bool_cases (is_one_of (take k ns) n)) [
    | inl e ↦ absurd (in_not ns n (in_take k ns n e) d.0)
    | inr e ↦ e
  ],
  different_take k ns d.1,
)
  where
    in_take : (k : ℕ) (ns : List Name) (n : Name) → is_one_of (take k ns) n ≡ true → is_one_of ns n ≡ true
    in_take zero ns n h = absurd cc
    in_take (suc k) [] n h = absurd cc
    in_take (suc k) (x ∷ ns) n h = elim (in_cases x (take k ns) n h) [ inl e ↦ in_first x ns n e | inr e ↦ in_rest x ns n (in_take k ns n e) ]

-- one name more
pub different_push : (ns : List Name) (n : Name) → AreDifferent ns → is_one_of ns n ≡ false → AreDifferent (ns ++ n ∷ [])
different_push [] n d h = (refl, tt)
different_push (x ∷ ns) n d h = (fresh, different_push ns n d.1 rest)
  where
    fresh : is_one_of (ns ++ n ∷ []) x ≡ false
    fresh = elim (bool_cases (is_one_of (ns ++ n ∷ []) x)) [
      | inl e ↦ elim (in_either ns (n ∷ []) x e) [
        | inl i ↦ absurd (in_not ns x i d.0)
        | inr i ↦ elim (in_cases n [] x i) [
          | inl s ↦ absurd (in_not (x ∷ ns) n (in_first x ns n (let q : n ≡ x = name_is n x s in rw q (name_same x))) h)
          | inr none ↦ absurd cc
        ]
      ]
      | inr e ↦ e
    ]

    rest : is_one_of ns n ≡ false
    rest = elim (bool_cases (is_one_of ns n)) [ inl e ↦ absurd (in_not (x ∷ ns) n (in_rest x ns n e) h) | inr e ↦ e ]

-- the parameters inside right sides are parameters
pub rights_in : (l : Level) → IsWithin (right_params l) (params_of l)
rights_in zero_level = within_itself []
rights_in (succ_level l) = rights_in l
rights_in (max_level l m) = within_beside (right_params l) (right_params m) (params_of l) (params_of m) (rights_in l) (rights_in m)
rights_in (imax_level l m) = within_beside (right_params l) (params_of m) (params_of l) (params_of m) (rights_in l) (within_itself (params_of m))
rights_in (param n) = record { each = λ m h. absurd cc }
