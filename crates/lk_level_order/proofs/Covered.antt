-- Cases that are enough for a level, by those of its parts.
use Rattle.std.proofs.Common.{ℕ, zero, suc, ◌≡◌, ◌<◌, ◌≤◌, ◌||◌, Bool, true, false, nat_lt, List, [], length, get_or, refl, sym, ap, ◌∙◌, arith, inl, inr, ◌⊎◌}
use Rattle.std.proofs.lemmas.Bool.Decides.{nat_tests}
use Rattle.lk_tree.specs.Tree.{Name, Level, zero_level, succ_level, max_level, imax_level, param}
use Rattle.lk_tree.specs.Level.{imax, level_value}
use Rattle.lk_tree.specs.Mentions.{same_name, is_one_of}
use Rattle.lk_tree.proofs.LevelTests.{if_cases, one_true, name_is}
use Rattle.lk_level_order.specs.declared.support.Support.{Support}
use Rattle.lk_level_order.specs.Parameters.{AreDifferent}
use Rattle.lk_level_order.specs.Digits.{has_one, with_one, case_of}
use Rattle.lk_level_order.specs.Covers.{IsServed, AreEnough, HasSupport, IsMet, IsJoined}
use Rattle.lk_level_order.proofs.Names.{in_not}
use Rattle.lk_level_order.proofs.CaseNumbers.{has_one_of, has_none, case_same, case_of_zero, raised, raised_here, raised_other, case_raised}

imax_le : (a b c d : ℕ) → a ≤ c → b ≤ d → imax a b ≤ imax c d
imax_le a zero c d h i = omega arith
imax_le a (suc b) c zero h i = absurd (omega arith)
imax_le a (suc b) c (suc d) h i = omega arith

-- with greater values a level is no less
pub value_grows : (l : Level) (τ σ : Name → ℕ) → ((n : Name) → τ n ≤ σ n) → level_value τ l ≤ level_value σ l
value_grows zero_level τ σ h = omega arith
value_grows (succ_level l) τ σ h = let x = value_grows l τ σ h in omega arith
value_grows (max_level l m) τ σ h = let x = value_grows l τ σ h in let y = value_grows m τ σ h in omega arith
value_grows (imax_level l m) τ σ h = imax_le _ _ _ _ (value_grows l τ σ h) (value_grows m τ σ h)
value_grows (param n) τ σ h = h n

pub enough_more : (ns : List Name) (P Q : ℕ → Type 0) (l : Level) → ((case : ℕ) → P case → Q case) → AreEnough ns P l → AreEnough ns Q l
enough_more ns P Q l f h σ = let s = h σ in record { values = s.values; below = s.below; enough = s.enough; chosen = f (case_of ns s.values) s.chosen }

-- each part
pub enough_zero : (ns : List Name) (P : ℕ → Type 0) → P 0 → AreEnough ns P zero_level
enough_zero ns P h σ = record {
  values = λ n. 0;
  below = λ n. omega arith;
  enough = omega arith;
  chosen = rw (case_of_zero ns) h;
}

pub enough_succ : (ns : List Name) (P : ℕ → Type 0) (l : Level) → AreEnough ns P l → AreEnough ns P (succ_level l)
enough_succ ns P l h σ = let s = h σ in let e = s.enough in record { values = s.values; below = s.below; enough = omega arith; chosen = s.chosen }

none : Name → ℕ
none n = 0

-- the assignment at one name alone
one : (Name → ℕ) → Name → Name → ℕ
one σ p m = raised none σ p m

one_below : (σ : Name → ℕ) (p m : Name) → one σ p m ≤ σ m
unfolding one none
one_below σ p m = elim (if_cases (same_name m p) (σ m) 0) [ inl e ↦ omega (arith, e.1) | inr e ↦ omega (arith, e.1) ]

one_here : (σ : Name → ℕ) (p : Name) → one σ p p ≡ σ p
unfolding one
one_here σ p = raised_here none σ p

case_none : (ns : List Name) → case_of ns none ≡ 0
unfolding none
case_none ns = case_of_zero ns

-- the case of one name that is above 0
case_one : (ns : List Name) (σ : Name → ℕ) (n : ℕ) → AreDifferent ns → n < length ns → 0 < σ (get_or ns n []) → case_of ns (one σ (get_or ns n [])) ≡ with_one 0 n
unfolding one
case_one ns σ n d h a = case_raised ns none σ n d h a ∙ ap (λ x. with_one x n) (case_none ns)

-- and of one that is not there
case_other : (ns : List Name) (σ : Name → ℕ) (p : Name) → is_one_of ns p ≡ false → case_of ns (one σ p) ≡ 0
unfolding one
case_other ns σ p h = case_same ns (one σ p) none (λ n i. raised_other none σ p n (λ s. in_not ns p (rw s at i) h)) ∙ case_none ns

zero_or_above : (x : ℕ) → (x ≡ 0) ⊎ (0 < x)
zero_or_above x = grind arith

pub enough_other : (ns : List Name) (P : ℕ → Type 0) (p : Name) → is_one_of ns p ≡ false → P 0 → AreEnough ns P (param p)
enough_other ns P p h i σ = record {
  values = one σ p;
  below = one_below σ p;
  enough = let e = one_here σ p in omega arith;
  chosen = rw (case_other ns σ p h) i;
}

pub enough_param : (ns : List Name) (P : ℕ → Type 0) (n : ℕ) → AreDifferent ns → n < length ns → P 0 → P (with_one 0 n) → AreEnough ns P (param (get_or ns n []))
enough_param ns P n d h i j σ = elim (zero_or_above (σ (get_or ns n []))) [
  | inl z ↦ record {
    values = λ n. 0;
    below = λ n. omega arith;
    enough = omega arith;
    chosen = rw (case_of_zero ns) i;
  }
  | inr a ↦ record {
    values = one σ (get_or ns n []);
    below = one_below σ (get_or ns n []);
    enough = let e = one_here σ (get_or ns n []) in omega arith;
    chosen = rw (case_one ns σ n d h a) j;
  }
]

le_cases : (x y : ℕ) → (x ≤ y) ⊎ (y < x)
le_cases x y = grind arith

pub enough_max : (ns : List Name) (P Q R : ℕ → Type 0) (a b : Level) → AreEnough ns Q a → AreEnough ns R b
    → ((case : ℕ) → Q case → P case) → ((case : ℕ) → R case → P case) → AreEnough ns P (max_level a b)
enough_max ns P Q R a b h i f g σ = elim (le_cases (level_value σ a) (level_value σ b)) [
  | inl l ↦ let s = i σ in let e = s.enough in record { values = s.values; below = s.below; enough = omega arith; chosen = g (case_of ns s.values) s.chosen }
  | inr l ↦ let s = h σ in let e = s.enough in record { values = s.values; below = s.below; enough = omega arith; chosen = f (case_of ns s.values) s.chosen }
]

-- of an imax
imax_right : (x y a b : ℕ) → y ≤ b → x ≤ y → imax x y ≤ imax a b
imax_right x zero a b h i = omega arith
imax_right x (suc y) a zero h i = absurd (omega arith)
imax_right x (suc y) a (suc b) h i = omega arith

imax_left : (x y a b : ℕ) → x ≤ a → y ≤ x → 0 < b → imax x y ≤ imax a b
imax_left x zero a b h i l = omega arith
imax_left x (suc y) a zero h i l = absurd (omega arith)
imax_left x (suc y) a (suc b) h i l = omega arith

lt_is : (x : ℕ) → nat_lt 0 x ≡ true → 0 < x
lt_is x h = grind (arith, nat_tests)

module _ (ns : List Name) (k : ℕ) (different : AreDifferent ns) (all : length ns ≡ k) (s : Support) (P : ℕ → Type 0) (a b : Level) (σ : Name → ℕ) (support : HasSupport ns s b) where
  -- where the left side is greater
  module _ (τ : Name → ℕ) (below : (n : Name) → τ n ≤ σ n) (enough : level_value σ a ≤ level_value τ a) (less : level_value σ b < level_value σ a) where
    itself : 0 < level_value τ b → P (case_of ns τ) → IsServed ns P (imax_level a b) σ
    itself l h = record {
      values = τ;
      below = below;
      enough = imax_left _ _ _ _ enough (omega arith) l;
      chosen = h;
    }

    met : IsMet k s (case_of ns τ) → 0 < level_value τ b
    met (inl e) = support.surely e τ
    met (inr m) =
        let l = m.below in
        let i : m.place < length ns = omega arith in
        support.each m.place i m.left τ (lt_is _ (sym (has_one_of ns τ m.place i) ∙ m.right))

    with_name : (n : ℕ) → n < length ns → has_one s.by n ≡ true → 0 < σ (get_or ns n []) → P (with_one (case_of ns τ) n) → IsServed ns P (imax_level a b) σ
    with_name n l i above h =
        let p = get_or ns n [] in
        let here : raised τ σ p p ≡ σ p = raised_here τ σ p in
        let more : (m : Name) → τ m ≤ raised τ σ p m = λ m. elim (if_cases (same_name m p) (σ m) (τ m)) [
          | inl e ↦ let b = below m in omega (arith, e.1)
          | inr e ↦ omega (arith, e.1)
        ] in
        let still : (m : Name) → raised τ σ p m ≤ σ m = λ m. elim (if_cases (same_name m p) (σ m) (τ m)) [
          | inl e ↦ omega (arith, e.1)
          | inr e ↦ let b = below m in omega (arith, e.1)
        ] in
        let left = value_grows a τ (raised τ σ p) more in
        let right : 0 < level_value (raised τ σ p) b = support.each n l i (raised τ σ p) (omega arith) in
        record {
          values = raised τ σ p;
          below = still;
          enough = imax_left _ _ _ _ (omega arith) (omega arith) right;
          chosen = rw (case_raised ns τ σ n different l above) h;
        }

    joined : 0 < level_value σ b → IsJoined k s P (case_of ns τ) → IsServed ns P (imax_level a b) σ
    joined l (inl h) = itself (met h.0) h.1
    joined l (inr h) = let n = support.some h.0 σ l in let i = n.1 in with_name n.0 n.1 n.2 n.3 (h.1 n.0 (omega arith) n.2)

pub enough_imax : (ns : List Name) (k : ℕ) → AreDifferent ns → length ns ≡ k → (s : Support) (P Q R : ℕ → Type 0) (a b : Level) → HasSupport ns s b → AreEnough ns Q a → AreEnough ns R b
    → ((case : ℕ) → Q case → IsJoined k s P case) → ((case : ℕ) → R case → P case) → AreEnough ns P (imax_level a b)
enough_imax ns k different all s P Q R a b support h i f g σ = elim (le_cases (level_value σ a) (level_value σ b)) [
  | inl l ↦ let v = i σ in record { values = v.values; below = v.below; enough = imax_right _ _ _ _ v.enough l; chosen = g (case_of ns v.values) v.chosen }
  | inr l ↦ let v = h σ in elim (zero_or_above (level_value σ b)) [
    | inl z ↦ let w = i σ in record { values = w.values; below = w.below; enough = rw z (omega arith); chosen = g (case_of ns w.values) w.chosen }
    | inr p ↦ joined ns k different all s P a b σ support v.values v.below v.enough l p (f (case_of ns v.values) v.chosen)
  ]
]

-- supports
clash : {A : Type 0} (b : Bool) → b ≡ true → b ≡ false → A
clash true h i = absurd cc
clash false h i = absurd cc

pub support_none : (ns : List Name) (s : Support) → s.surely ≡ false → s.by ≡ 0 → HasSupport ns s zero_level
support_none ns s f z = record {
  surely = λ e σ. clash s.surely e f;
  each = λ n l h σ a. clash (has_one s.by n) h (ap (λ x. has_one x n) z ∙ has_none n);
  some = λ e σ l. absurd (omega arith);
}

pub support_succ : (ns : List Name) (s : Support) (l : Level) → s.surely ≡ true → HasSupport ns s (succ_level l)
support_succ ns s l e = record {
  surely = λ e σ. omega arith;
  each = λ n l h σ a. omega arith;
  some = λ f σ l. clash s.surely e f;
}

-- the case of one name has no other
ones : Name → ℕ
ones m = 1

number : (ns : List Name) (n : ℕ) → AreDifferent ns → n < length ns → with_one 0 n ≡ case_of ns (one ones (get_or ns n []))
unfolding ones
number ns n d l = sym (case_one ns ones n d l (omega arith))

own_digit : (ns : List Name) (n : ℕ) → AreDifferent ns → n < length ns → has_one (with_one 0 n) n ≡ true
unfolding ones
own_digit ns n d l =
    let p = get_or ns n [] in
    let e : one ones p p ≡ 1 = one_here ones p in
    ap (λ x. has_one x n) (number ns n d l) ∙ has_one_of ns (one ones p) n l ∙ ap (nat_lt 0) e

only_digit : (ns : List Name) (n m : ℕ) → AreDifferent ns → n < length ns → m < length ns → has_one (with_one 0 n) m ≡ true → get_or ns m [] ≡ get_or ns n []
unfolding ones one none
only_digit ns n m d l i h =
    let p = get_or ns n [] in
    let above : 0 < one ones p (get_or ns m []) = lt_is _ (sym (has_one_of ns (one ones p) m i) ∙ ap (λ x. has_one x m) (sym (number ns n d l)) ∙ h) in
    elim (if_cases {A = ℕ} (same_name (get_or ns m []) p) 1 0) [
      | inl e ↦ name_is (get_or ns m []) p e.0
      | inr e ↦ let z = e.1 in absurd (omega arith)
    ]

pub support_param : (ns : List Name) (s : Support) (n : ℕ) → AreDifferent ns → n < length ns → s.surely ≡ false → s.by ≡ with_one 0 n → HasSupport ns s (param (get_or ns n []))
support_param ns s n d l f by = record {
  surely = λ e σ. clash s.surely e f;
  each = λ m i h σ a. rw (only_digit ns n m d l i (ap (λ x. has_one x m) (sym by) ∙ h)) at a;
  some = λ e σ a. (n, l, ap (λ x. has_one x n) by ∙ own_digit ns n d l, a);
}

neither : (x y : Bool) → (x || y) ≡ false → (x ≡ false) × (y ≡ false)
neither true y h = absurd cc
neither false y h = (refl, h)

pub support_max : (ns : List Name) (s t u : Support) (a b : Level) → HasSupport ns s a → HasSupport ns t b → u.surely ≡ (s.surely || t.surely)
    → ((n : ℕ) → has_one u.by n ≡ (has_one s.by n || has_one t.by n)) → HasSupport ns u (max_level a b)
support_max ns s t u a b x y e f = record {
  surely = λ h σ. elim (one_true s.surely t.surely (sym e ∙ h)) [
    | inl i ↦ let v = x.surely i σ in omega arith
    | inr i ↦ let v = y.surely i σ in omega arith
  ];
  each = λ n l h σ p. elim (one_true (has_one s.by n) (has_one t.by n) (sym (f n) ∙ h)) [
    | inl i ↦ let v = x.each n l i σ p in omega arith
    | inr i ↦ let v = y.each n l i σ p in omega arith
  ];
  some = λ h σ l.
      let both = neither s.surely t.surely (sym e ∙ h) in
      elim (zero_or_above (level_value σ a)) [
        | inl z ↦ let n = y.some both.1 σ (omega arith) in (n.0, n.1, f n.0 ∙ right (has_one s.by n.0) (has_one t.by n.0) n.2, n.3)
        | inr p ↦ let n = x.some both.0 σ p in (n.0, n.1, f n.0 ∙ left (has_one s.by n.0) (has_one t.by n.0) n.2, n.3)
      ];
}
  where
    left : (x y : Bool) → x ≡ true → (x || y) ≡ true
    left true y h = refl
    left false y h = absurd cc

    right : (x y : Bool) → y ≡ true → (x || y) ≡ true
    right true y h = refl
    right false y h = h

imax_positive : (x y : ℕ) → 0 < y → 0 < imax x y
imax_positive x zero h = absurd (omega arith)
imax_positive x (suc y) h = omega arith

positive_imax : (x y : ℕ) → 0 < imax x y → 0 < y
positive_imax x zero h = absurd (omega arith)
positive_imax x (suc y) h = omega arith

pub support_imax : (ns : List Name) (s : Support) (a b : Level) → HasSupport ns s b → HasSupport ns s (imax_level a b)
support_imax ns s a b h = record {
  surely = λ e σ. imax_positive _ _ (h.surely e σ);
  each = λ n l i σ p. imax_positive _ _ (h.each n l i σ p);
  some = λ e σ l. h.some e σ (positive_imax _ _ l);
}
