-- The answer of a comparison.
use Rattle.std.proofs.Common.{ℕ, zero, suc, ◌≡◌, ◌<◌, ◌≤◌, ◌^◌, Bool, true, false, nat_le, nat_eq, List, [], ◌∷◌, ◌++◌, map, take, drop, length, refl, ap, arith, inl, inr, Some, None}
use Rattle.std.proofs.lemmas.Bool.Decides.{nat_tests}
use Rattle.std.proofs.lemmas.Grind.{common_steps}
use Rattle.lk_tree.specs.Tree.{Name, Level}
use Rattle.lk_tree.specs.Level.{level_value, AtMost}
use Rattle.lk_tree.specs.Mentions.{is_one_of}
use Rattle.lk_tree.specs.LevelTest.{params_of, right_params, width, ones, level_le, level_le_test}
use Rattle.lk_tree.proofs.LevelTests.{bool_cases, if_cases, kept, kept_above, kept_all, kept_in, level_le_right, level_le_all, level_test_all, level_test_unequal, level_test_too_wide, nat_le_of, nat_le_to}
use Rattle.lk_level_order.specs.Parameters.{IsWithin, AreDifferent}
use Rattle.lk_level_order.specs.declared.relation.Relation.{Relation}
use Rattle.lk_level_order.specs.declared.relation.Relation.TheVariants as relation
use Rattle.lk_level_order.specs.Compared.{compared_by, HasParameters}
use Rattle.lk_level_order.specs.Values.{assigned, value_at, digits, IsTested, IsRefuted}
use Rattle.lk_level_order.specs.Digits.{sign, case_of}
use Rattle.lk_level_order.specs.Covers.{AreEnough, AreEnoughWithin}
use Rattle.lk_level_order.proofs.Names.{in_not, within_left, within_right, distinct_counts, different_front, different_take}
use Rattle.lk_level_order.proofs.Digits.{AreDigits, digits_are}
use Rattle.lk_level_order.proofs.CaseNumbers.{number_is, case_small}
use Rattle.lk_level_order.proofs.Covered.{value_grows}
use Rattle.lk_level_order.proofs.Listed.{take_length}
use Rattle.lk_level_order.proofs.Tested.{case_at_most}

ones_digits : (s ns : List Name) → AreDigits (map (ones s) ns)
ones_digits s [] = tt
ones_digits s (n ∷ ns) = (elim (if_cases {A = ℕ} (is_one_of s n) 1 0) [ inl e ↦ omega (arith, e.1) | inr e ↦ omega (arith, e.1) ], ones_digits s ns)

-- the digits of an assignment's case
module _ (ns : List Name) (k : ℕ) (different : AreDifferent ns) where
  abbrev front : List Name
  front = take k ns

  case_digits : (τ : Name → ℕ) → digits (length ns) (case_of front τ) ≡ map (ones (kept τ front)) ns
  case_digits τ =
      let s = kept τ front in
      let vs = map (ones s) ns in
      let length_is : length vs ≡ length ns = grind (arith, common_steps) in
      let number = number_is ns k (ones s) τ first rest in
      rw (← number, ← length_is) (digits_are vs (ones_digits s ns))
    where
      sign_of : (v : ℕ) → 0 < v → 1 ≡ sign v
      sign_of zero h = absurd (omega arith)
      sign_of (suc v) h = refl

      none_of : (v : ℕ) → (0 < v → ⊥) → 0 ≡ sign v
      none_of zero h = refl
      none_of (suc v) h = absurd (h (omega arith))

      first : (n : Name) → is_one_of front n ≡ true → ones (kept τ front) n ≡ sign (τ n)
      first n i = elim (bool_cases (is_one_of (kept τ front) n)) [
        | inl e ↦ rw e (sign_of (τ n) (kept_above τ front n e))
        | inr e ↦ rw e (none_of (τ n) (λ l. in_not (kept τ front) n (kept_all τ front n i l) e))
      ]

      rest : (n : Name) → is_one_of (drop k ns) n ≡ true → ones (kept τ front) n ≡ 0
      rest n i = elim (bool_cases (is_one_of (kept τ front) n)) [
        | inl e ↦ absurd (different_front k ns n different (kept_in τ front n e) i)
        | inr e ↦ rw e refl
      ]

  pub tested_at_most : (P : ℕ → Type 0) (l m : Level) → IsWithin (params_of l) ns → IsWithin (params_of m) ns → IsWithin (right_params l) front → IsWithin (right_params m) front
      → AreEnough front P l → ((case : ℕ) → P case → IsTested relation.AtMost k ns l m (digits (length ns) case)) → AtMost l m
  tested_at_most P l m l_in m_in l_rights m_rights enough t σ =
      let s = enough σ in
      let at = t (case_of front s.values) s.chosen in
      let there = case_at_most ns different k s.values l m l_in m_in l_rights m_rights (rw (case_digits s.values) at at) in
      let more = value_grows m s.values σ s.below in
      let e = s.enough in
      omega arith

-- all cases are enough
pub all_enough : (ns : List Name) (k : ℕ) (l : Level) → k ≤ length ns → AreEnough (take k ns) (λ case. case < 2 ^ k) l
all_enough ns k l h σ = record {
  values = σ;
  below = λ n. omega arith;
  enough = omega arith;
  chosen = let c = case_small (take k ns) σ in rw (take_length k ns h) at c;
}

-- the two relations
at_most_of : (k : ℕ) (ns : List Name) (l m : Level) (vs : List ℕ) → IsTested relation.Equal k ns l m vs → IsTested relation.AtMost k ns l m vs
at_most_of k ns l m vs t = record {
  least = weaker _ _ t.least;
  far = λ p h i. weaker _ _ (t.far p h i);
}
  where
    weaker : (x y : ℕ) → nat_eq x y ≡ true → nat_le x y ≡ true
    weaker x y h = grind (arith, nat_tests)

at_least_of : (k : ℕ) (ns : List Name) (l m : Level) (vs : List ℕ) → IsTested relation.Equal k ns l m vs → IsTested relation.AtMost k ns m l vs
at_least_of k ns l m vs t =
    let same : value_at ns vs l ≡ value_at ns vs m = equal _ _ t.least in
    record {
      least = weaker _ _ t.least;
      far = λ p h i. rw same (weaker _ _ (t.far p h i));
    }
  where
    weaker : (x y : ℕ) → nat_eq x y ≡ true → nat_le y x ≡ true
    weaker x y h = grind (arith, nat_tests)

    equal : (x y : ℕ) → nat_eq x y ≡ true → x ≡ y
    equal x y h = grind (arith, nat_tests)

narrow_width : (ns : List Name) (k : ℕ) (l m : Level) → HasParameters ns k l m → width l m ≡ length (take k ns)
narrow_width ns k l m h = distinct_counts (take k ns) (right_params l ++ right_params m) (different_take k ns h.different) h.only_rights h.all_rights

width_is : (ns : List Name) (k : ℕ) (l m : Level) → HasParameters ns k l m → width l m ≡ k
width_is ns k l m h = let e = narrow_width ns k l m h in let w = h.within in grind (arith, common_steps)

le_test : (l m : Level) (r : Bool) → width l m ≤ 20 → level_le l m ≡ r → level_le_test l m ≡ Some r
le_test l m r n h = let e : nat_le (width l m) 20 ≡ true = nat_le_to (width l m) 20 n in rw (e, h) refl

le_not : (l m : Level) (σ : Name → ℕ) → nat_le (level_value σ l) (level_value σ m) ≡ false → level_le l m ≡ false
le_not l m σ h = elim (bool_cases (level_le l m)) [
  | inl e ↦ absurd (above _ _ h (level_le_right l m e σ))
  | inr e ↦ e
]
  where
    above : (x y : ℕ) → nat_le x y ≡ false → x ≤ y → ⊥
    above x y e l = grind (arith, nat_tests)

module _ (ns : List Name) (k : ℕ) (l m : Level) (h : HasParameters ns k l m) (few : k ≤ 20) where
  narrow : width l m ≤ 20
  narrow = let e = width_is ns k l m h in omega arith

  rights_of : IsWithin (right_params l) (take k ns) × IsWithin (right_params m) (take k ns)
  rights_of = (within_left (right_params l) (right_params m) (take k ns) h.all_rights, within_right (right_params l) (right_params m) (take k ns) h.all_rights)

  -- what holds in enough cases holds
  module _ (P : ℕ → Type 0) (l_enough : AreEnoughWithin (take k ns) P l) (m_enough : AreEnoughWithin (take k ns) P m) where
    at_most_in_all : ((case : ℕ) → P case → IsTested relation.AtMost k ns l m (digits (length ns) case)) → AtMost l m
    at_most_in_all t = tested_at_most ns k h.different P l m h.left h.right rights_of.0 rights_of.1 (l_enough rights_of.0) t

    at_least_in_all : ((case : ℕ) → P case → IsTested relation.AtMost k ns m l (digits (length ns) case)) → AtMost m l
    at_least_in_all t = tested_at_most ns k h.different P m l h.right h.left rights_of.1 rights_of.0 (m_enough rights_of.1) t

    pub holds_by_cases : (r : Relation) → ((case : ℕ) → P case → IsTested r k ns l m (digits (length ns) case)) → compared_by r l m ≡ Some true
    holds_by_cases relation.Equal t =
        let a = at_most_in_all (λ n i. at_most_of k ns l m (digits (length ns) n) (t n i)) in
        let b = at_least_in_all (λ n i. at_least_of k ns l m (digits (length ns) n) (t n i)) in
        level_test_all l m narrow (λ σ. let x = a σ in let y = b σ in omega arith)
    holds_by_cases relation.AtMost t = le_test l m true narrow (level_le_all l m (at_most_in_all t))

  -- and what fails somewhere does not hold
  pub fails_somewhere : (r : Relation) → IsRefuted r ns l m → compared_by r l m ≡ Some false
  fails_somewhere relation.Equal f = level_test_unequal l m narrow (λ s. differ _ _ f.fails (s (assigned ns f.values)))
    where
      differ : (x y : ℕ) → nat_eq x y ≡ false → x ≡ y → ⊥
      differ x y e s = grind (arith, nat_tests)
  fails_somewhere relation.AtMost f = le_test l m false narrow (le_not l m (assigned ns f.values) f.fails)

  pub holds_of_one : (r : Relation) → l ≡ m → compared_by r l m ≡ Some true
  holds_of_one relation.Equal e = level_test_all l m narrow (λ σ. ap (level_value σ) e)
  holds_of_one relation.AtMost e = le_test l m true narrow (level_le_all l m (λ σ. let s = ap (level_value σ) e in omega arith))

pub too_wide : (ns : List Name) (k : ℕ) (l m : Level) → HasParameters ns k l m → 20 < k → (r : Relation) → compared_by r l m ≡ None
too_wide ns k l m h wide relation.Equal = let e = width_is ns k l m h in level_test_too_wide l m (omega arith)
too_wide ns k l m h wide relation.AtMost =
    let e = width_is ns k l m h in
    elim (bool_cases (nat_le (width l m) 20)) [
      | inl n ↦ absurd (let a = nat_le_of (width l m) 20 n in omega arith)
      | inr n ↦ rw n refl
    ]
