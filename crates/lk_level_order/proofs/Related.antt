-- The answer for two levels of an order.
use Rattle.std.proofs.Common.{ℕ, ◌≡◌, ◌<◌, ◌≤◌, ◌^◌, Bool, true, false, List, take, length, refl, sym, ◌∙◌, Result, Ok, Err, IfOk, Some}
use Rattle.std.proofs.lemmas.Result.{IfOk-weaker}
use Rattle.lk_store.specs.Contents.{Contents, level_at}
use Rattle.lk_store.specs.declared.node.LevelNode.TheVariants.{Zero}
use Rattle.lk_level_order.specs.declared.parameters.Parameter.{Parameter}
use Rattle.lk_level_order.specs.declared.placing.PlacedLevel.{PlacedLevel}
use Rattle.lk_level_order.specs.declared.cases.Question.{Question}
use Rattle.lk_level_order.specs.Parameters.{names_of}
use Rattle.lk_level_order.specs.Placing.{gathered, IsPlaceOf, ArePlaced, IsOrder}
use Rattle.lk_level_order.specs.Values.{digits}
use Rattle.lk_level_order.specs.Compared.{compared_by, HasParameters}
use Rattle.lk_level_order.specs.Cases.{IsTestedOf, IsRefutedOf}
use Rattle.lk_level_order.specs.Covers.{AreEnoughWithin, OverNames}
use Rattle.lk_level_order.proofs.Gathered.{length_map}
use Rattle.lk_level_order.proofs.Placed.{place_level, placed_order}
use Rattle.lk_level_order.proofs.Decided.{all_enough, holds_by_cases, fails_somewhere}

-- the answer is that of the definitions, whatever the order stands for
abbrev pub IsAnswer : List PlacedLevel → Question → ℕ → ℕ → Bool → Type 0
IsAnswer parts q k count r =
    (d : Contents) → IsOrder d parts → count ≡ length d.names → HasParameters d.names k (level_at d q.places.left) (level_at d q.places.right)
    → compared_by q.relation (level_at d q.places.left) (level_at d q.places.right) ≡ Some r

module _ (parts : List PlacedLevel) (q : Question) (k count : ℕ) (few : k ≤ 20) where
  abbrev Tested : (ℕ → Type 0) → Type 0
  Tested P = (d : Contents) → IsOrder d parts → count ≡ length d.names → (case : ℕ) → P case → IsTestedOf d q k (digits count case)

  abbrev Somewhere : Type 0
  Somewhere = (d : Contents) → IsOrder d parts → count ≡ length d.names → IsRefutedOf d q

  abbrev Enough : (ℕ → Type 0) → ℕ → Type 0
  Enough P place = OverNames k count (λ d. IsOrder d parts → AreEnoughWithin (take k d.names) P (level_at d place))

  module _ (P : ℕ → Type 0) (left : Enough P q.places.left) (right : Enough P q.places.right) where
    holds_in_all : Tested P → IsAnswer parts q k count true
    holds_in_all t d order is h =
        holds_by_cases d.names k (level_at d q.places.left) (level_at d q.places.right) h few P (left d order.different h.within is order) (right d order.different h.within is order)
        q.relation (λ case i. let x = t d order is case i in rw is at x)

    fails_in_one : Somewhere → IsAnswer parts q k count false
    fails_in_one t d order is h = fails_somewhere d.names k (level_at d q.places.left) (level_at d q.places.right) h few q.relation (t d order is)

    pub decided : {E : Type 0} (r : Result Bool E) → IfOk r (λ r. r ≡ true → Tested P) → IfOk r (λ r. r ≡ false → Somewhere) → IfOk r (IsAnswer parts q k count)
    decided (Ok true) y n = holds_in_all (y refl)
    decided (Ok false) y n = fails_in_one (n refl)
    decided (Err e) y n = tt

  all : (place : ℕ) → Enough (λ case. case < 2 ^ k) place
  all place d different within is order rights = all_enough d.names k (level_at d place) within

  pub decided_by_all : {E : Type 0} (r : Result Bool E) → IfOk r (λ r. r ≡ true → Tested (λ case. case < 2 ^ k)) → IfOk r (λ r. r ≡ false → Somewhere) → IfOk r (IsAnswer parts q k count)
  decided_by_all r y n = decided (λ case. case < 2 ^ k) (all q.places.left) (all q.places.right) r y n

module _ (c : Contents) (names : List Parameter) (parts : List PlacedLevel) (q : Question) (a b k count : ℕ)
    (h : HasParameters (names_of c names) k (level_at c a) (level_at c b)) (few : k ≤ 20) (placed : ArePlaced c names parts)
    (left : IsPlaceOf a parts q.places.left) (right : IsPlaceOf b parts q.places.right) (is : count ≡ length names) where
  abbrev d : Contents
  d = gathered c names parts

  none : PlacedLevel
  none = record { level = 0; node = Zero }

  order : IsOrder d parts
  order = placed_order c names parts h.different placed

  count_is : count ≡ length (names_of c names)
  count_is = is ∙ sym (length_map c names)

  left_is : level_at d q.places.left ≡ level_at c a
  left_is = place_level c names parts a q.places.left none left

  right_is : level_at d q.places.right ≡ level_at c b
  right_is = place_level c names parts b q.places.right none right

  pub answer_is : {E : Type 0} (r : Result Bool E) → IfOk r (IsAnswer parts q k count) → IfOk r (λ r. compared_by q.relation (level_at c a) (level_at c b) ≡ Some r)
  answer_is r f = IfOk-weaker r (IsAnswer parts q k count) (λ r. compared_by q.relation (level_at c a) (level_at c b) ≡ Some r) (λ v g. one v g) f
    where
      there : HasParameters d.names k (level_at d q.places.left) (level_at d q.places.right)
      there = rw (left_is, right_is) h

      one : (v : Bool) → IsAnswer parts q k count v → compared_by q.relation (level_at c a) (level_at c b) ≡ Some v
      one v g = let x = g d order count_is there in rw (left_is, right_is) at x
