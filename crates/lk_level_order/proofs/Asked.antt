-- What is asked of two levels, in one case and in all.
use Rattle.std.proofs.Common.{ℕ, zero, suc, ◌≡◌, ◌≢◌, ◌<◌, ◌≤◌, ◌+◌, ◌-◌, ◌%◌, ◌/◌, ◌^◌, true, false, List, [], ◌∷◌, ◌++◌, length, get_or, slice_set, refl, sym, ap, subst, ◌∙◌, arith, append_assoc, append-nil, below_more}
use Rattle.std.proofs.Math.Nat.{pow-le-pow_right}
use Rattle.lk_tree.specs.Tree.{Name, Level}
use Rattle.lk_store.specs.Contents.{Contents, level_at}
use Rattle.lk_level_order.specs.declared.placing.PlacedLevel.{PlacedLevel}
use Rattle.lk_level_order.specs.declared.cases.Question.{Question}
use Rattle.lk_level_order.specs.declared.relation.Relation.{Relation}
use Rattle.lk_level_order.specs.Placing.{IsOrder}
use Rattle.lk_level_order.specs.Cases.{asked_where, IsTestedOf, IsRefutedOf}
use Rattle.lk_level_order.specs.Values.{value_at, relation_test, digits, IsTested, IsRefuted, OverOrders}

-- a value that is put back
pub set_back : (xs : List ℕ) (p v : ℕ) → slice_set (slice_set xs p v) p (get_or xs p 0) ≡ xs
set_back [] p v = refl
set_back (x ∷ xs) zero v = refl
set_back (x ∷ xs) (suc p) v = ap (λ (ys : List ℕ). x ∷ ys) (set_back xs p v)

pub set_length : (xs : List ℕ) (p v : ℕ) → length (slice_set xs p v) ≡ length xs
set_length [] p v = refl
set_length (x ∷ xs) zero v = refl
set_length (x ∷ xs) (suc p) v = ap suc (set_length xs p v)

module _ (r : Relation) (ns : List Name) (l m : Level) where
  pub tested : (k : ℕ) (vs : List ℕ) (x y far : ℕ) → x ≡ value_at ns vs l → y ≡ value_at ns vs m → relation_test r x y ≡ true → far ≡ y + 1
      → ((p : ℕ) → p < length vs → (p < k → get_or vs p 0 ≢ 0) → relation_test r (value_at ns (slice_set vs p far) l) (value_at ns (slice_set vs p far) m) ≡ true)
      → IsTested r k ns l m vs
  tested k vs x y far is_x is_y holds is_far h =
      let e : far ≡ suc (value_at ns vs m) = is_far ∙ (let s : y + 1 ≡ suc y = omega arith in s) ∙ ap suc is_y in
      record {
        least = rw (is_x, is_y) at holds;
        far = λ p b i. rw e at h p b i;
      }

  pub refuted : (vs : List ℕ) (x y : ℕ) → x ≡ value_at ns vs l → y ≡ value_at ns vs m → relation_test r x y ≡ false → IsRefuted r ns l m
  refuted vs x y is_x is_y fails = record { values = vs; fails = rw (is_x, is_y) at fails }

-- one case
module _ (parts : List PlacedLevel) (vs : List ℕ) (q : Question) where
  -- it holds where each of the first n parameters is far, but those of the first k that are 0
  abbrev pub HoldsFar : ℕ → ℕ → List ℕ → ℕ → Type 0
  HoldsFar k far ws n = (n < k → get_or ws n 0 ≢ 0) → OverOrders parts ws (λ d. asked_where d q (slice_set ws n far) ≡ true)

  pub far_more : (k far p : ℕ) (ws : List ℕ) → ws ≡ vs → ((n : ℕ) → n < p → HoldsFar k far vs n) → HoldsFar k far ws p → (n : ℕ) → n < p + 1 → HoldsFar k far vs n
  far_more k far p ws e before here = below_more (λ n. HoldsFar k far vs n) p before (subst (λ (ws : List ℕ). HoldsFar k far ws p) e here)

  pub far_refuted : (far p : ℕ) (ws : List ℕ) → ws ≡ vs → OverOrders parts ws (λ d. asked_where d q (slice_set ws p far) ≡ false) → OverOrders parts vs (λ d. IsRefutedOf d q)
  far_refuted far p ws e h d order few = record { values = slice_set ws p far; fails = h d order (ap length e ∙ few) }

  pub least_refuted : (x y : ℕ) → OverOrders parts vs (λ d. x ≡ value_at d.names vs (level_at d q.places.left)) → OverOrders parts vs (λ d. y ≡ value_at d.names vs (level_at d q.places.right))
      → relation_test q.relation x y ≡ false → OverOrders parts vs (λ d. IsRefutedOf d q)
  least_refuted x y left right fails d order few =
      refuted q.relation d.names (level_at d q.places.left) (level_at d q.places.right) vs x y (left d order few) (right d order few) fails

  pub case_tested : (k far p x y : ℕ) → OverOrders parts vs (λ d. x ≡ value_at d.names vs (level_at d q.places.left)) → OverOrders parts vs (λ d. y ≡ value_at d.names vs (level_at d q.places.right))
      → relation_test q.relation x y ≡ true → far ≡ y + 1 → length vs ≤ p → ((n : ℕ) → n < p → HoldsFar k far vs n) → OverOrders parts vs (λ d. IsTestedOf d q k vs)
  case_tested k far p x y left right holds is_far all h d order few =
      tested q.relation d.names (level_at d q.places.left) (level_at d q.places.right) k vs x y far (left d order few) (right d order few) holds is_far
      (λ n b i. h n (omega arith) i d order few)

-- one digit more
pub digits_step : (count at rest : ℕ) → at < count → digits (count - at) rest ≡ (rest % 2) ∷ digits (count - (at + 1)) (rest / 2)
digits_step count at rest h = let e : count - at ≡ suc (count - (at + 1)) = omega arith in rw e refl

pub digits_length : (count case : ℕ) → length (digits count case) ≡ count
digits_length zero case = refl
digits_length (suc n) case = ap suc (digits_length n (case / 2))

-- the digits pushed one after another
pub digits_start : (xs : List ℕ) (count case : ℕ) → xs ≡ [] → xs ++ digits (count - 0) case ≡ digits count case
digits_start xs count case e = let s : count - 0 ≡ count = omega arith in rw (e, s) refl

pub digits_more : (xs : List ℕ) (count at rest case : ℕ) → at < count → xs ++ digits (count - at) rest ≡ digits count case
    → (xs ++ (rest % 2) ∷ []) ++ digits (count - (at + 1)) (rest / 2) ≡ digits count case
digits_more xs count at rest case h e =
    append_assoc xs ((rest % 2) ∷ []) (digits (count - (at + 1)) (rest / 2)) ∙ ap (λ ds. xs ++ ds) (sym (digits_step count at rest h)) ∙ e

pub digits_end : (xs : List ℕ) (count at rest case : ℕ) → count ≤ at → xs ++ digits (count - at) rest ≡ digits count case → xs ≡ digits count case
digits_end xs count at rest case h e =
    let none : digits (count - at) rest ≡ [] = let z : count - at ≡ 0 = omega arith in rw z refl in
    sym (append-nil xs) ∙ ap (λ ds. xs ++ ds) (sym none) ∙ e

-- one case, by its number
module _ (parts : List PlacedLevel) (q : Question) (k count case : ℕ) (ws : List ℕ) (e : ws ≡ digits count case) where
  counted : (n : ℕ) → count ≡ n → length ws ≡ n
  counted n few = ap length e ∙ digits_length count case ∙ few

  pub number_tested : OverOrders parts ws (λ d. IsTestedOf d q k ws) → (d : Contents) → IsOrder d parts → count ≡ length d.names → IsTestedOf d q k (digits count case)
  number_tested here d order few = subst (λ (ws : List ℕ). IsTestedOf d q k ws) e (here d order (counted (length d.names) few))

  pub number_refuted : OverOrders parts ws (λ d. IsRefutedOf d q) → (d : Contents) → IsOrder d parts → count ≡ length d.names → IsRefutedOf d q
  number_refuted here d order few = here d order (counted (length d.names) few)

-- all cases, one after another
pub cases_more : (parts : List PlacedLevel) (q : Question) (k count case : ℕ) → ((d : Contents) → IsOrder d parts → count ≡ length d.names → IsTestedOf d q k (digits count case))
    → ((d : Contents) → IsOrder d parts → count ≡ length d.names → (n : ℕ) → n < case → IsTestedOf d q k (digits count n))
    → (d : Contents) → IsOrder d parts → count ≡ length d.names → (n : ℕ) → n < case + 1 → IsTestedOf d q k (digits count n)
cases_more parts q k count case here before d order few = below_more (λ n. IsTestedOf d q k (digits count n)) case (before d order few) (here d order few)

-- there are few cases
pub few_cases : (k : ℕ) → k ≤ 20 → 2 ^ k ≤ 1048576
few_cases k few = let top : 2 ^ k ≤ 2 ^ 20 = pow-le-pow_right {n = 2} (omega arith) {i = k} {j = 20} few in top
