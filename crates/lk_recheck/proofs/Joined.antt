-- Marks of two searches, put together.
use Rattle.std.proofs.Common.{arith, ◌≡◌, ℕ, zero, suc, ◌<◌, ◌≤◌, ◌||◌, ◌⊎◌, inl, inr, Bool, true, false, List, [], ◌∷◌, length, max, Some, None, Result, Ok, Err, IfOk, refl, sym, ap, subst, ◌∙◌}
use Rattle.std.specs.Prelude.{slice_get}
use Rattle.std.specs.declared.option.Option.{Option}
use Rattle.lk_rulebook.specs.Units.{Library}
use Rattle.lk_uses.specs.Closure.{IsInClosure, own_unit, IsUnchanged}
use Rattle.lk_recheck.specs.Stale.{first_mark, later_marks, either, MarksChanged, MarksTouched, MarksStale}

pub length_either : (ms ns : List Bool) → length (either ms ns) ≡ length ms
length_either [] ns = refl
length_either (m ∷ ms) ns = ap suc (length_either ms (later_marks ns))

or_true : (m n : Bool) → (m || n) ≡ true → (m ≡ true) ⊎ (n ≡ true)
or_true true n is = inl refl
or_true false n is = inr is

or_false : (m n : Bool) → (m || n) ≡ false → (m ≡ false) × (n ≡ false)
or_false true n is = absurd (cc is)
or_false false n is = (refl, is)

same_mark : (m n : Bool) → ◌≡◌ {A = Option Bool} (Some m) (Some n) → m ≡ n
same_mark m n is = cc is

first_at : (ns : List Bool) → first_mark ns ≡ true → slice_get ns 0 ≡ Some true
first_at [] is = absurd (cc is)
first_at (n ∷ ns) is = ap (λ b. Some b) is

not_first : (ns : List Bool) → first_mark ns ≡ false → slice_get ns 0 ≡ Some true → ⊥
not_first [] is at = cc at
not_first (n ∷ ns) is at = cc (is, at)

later_at : (ns : List Bool) (k : ℕ) → slice_get (later_marks ns) k ≡ slice_get ns (suc k)
later_at [] k = refl
later_at (n ∷ ns) k = refl

-- where a mark is set, it is set in one of both
pub set_in : (ms ns : List Bool) (k : ℕ) → slice_get (either ms ns) k ≡ Some true
    → (slice_get ms k ≡ Some true) ⊎ (slice_get ns k ≡ Some true)
set_in [] ns k is = absurd (cc is)
set_in (m ∷ ms) ns zero is = head (or_true m (first_mark ns) (same_mark (m || first_mark ns) true is))
  where
    head : (m ≡ true) ⊎ (first_mark ns ≡ true) → (slice_get (m ∷ ms) 0 ≡ Some true) ⊎ (slice_get ns 0 ≡ Some true)
    head (inl e) = inl (ap (λ b. Some b) e)
    head (inr e) = inr (first_at ns e)
set_in (m ∷ ms) ns (suc k) is = tail (set_in ms (later_marks ns) k is)
  where
    tail : (slice_get ms k ≡ Some true) ⊎ (slice_get (later_marks ns) k ≡ Some true)
        → (slice_get (m ∷ ms) (suc k) ≡ Some true) ⊎ (slice_get ns (suc k) ≡ Some true)
    tail (inl h) = inl h
    tail (inr h) = inr (sym (later_at ns k) ∙ h)

-- where it is not set, it is set in none
pub not_set_in : (ms ns : List Bool) (k : ℕ) → slice_get (either ms ns) k ≡ Some false
    → (slice_get ms k ≡ Some false) × (slice_get ns k ≡ Some true → ⊥)
not_set_in [] ns k is = absurd (cc is)
not_set_in (m ∷ ms) ns zero is =
    let both = or_false m (first_mark ns) (same_mark (m || first_mark ns) false is) in
    (ap (λ b. Some b) both.0, not_first ns both.1)
not_set_in (m ∷ ms) ns (suc k) is =
    let rest = not_set_in ms (later_marks ns) k is in
    (rest.0, λ h. rest.1 (later_at ns k ∙ h))

-- a number has a mark or stands behind all
marked : (ms : List Bool) (k : ℕ) → (slice_get ms k ≡ Some true → ⊥) → (slice_get ms k ≡ Some false) ⊎ (length ms ≤ k)
marked [] k not = inr (omega arith)
marked (true ∷ ms) zero not = absurd (not refl)
marked (false ∷ ms) zero not = inl refl
marked (m ∷ ms) (suc k) not = next (marked ms k not)
  where
    next : (slice_get ms k ≡ Some false) ⊎ (length ms ≤ k) → (slice_get (m ∷ ms) (suc k) ≡ Some false) ⊎ (length (m ∷ ms) ≤ suc k)
    next (inl h) = inl h
    next (inr l) = inr (omega (arith, l))

behind : {A : Type 0} (xs : List A) (k : ℕ) → length xs ≤ k → slice_get xs k ≡ None
behind [] k l = refl
behind (x ∷ xs) zero l = absurd (none (length xs) l)
  where
    none : (n : ℕ) → suc n ≤ 0 → ⊥
    none n l = omega (arith, l)
behind (x ∷ xs) (suc k) l = behind xs k (omega (arith, l))

-- a number that stands has a unit, and one behind has none
stands : {A : Type 0} (xs : List A) (k : ℕ) (x : A) → slice_get xs k ≡ Some x → k < length xs
stands [] k x is = absurd (cc is)
stands (y ∷ xs) zero x is = omega arith
stands (y ∷ xs) (suc k) x is =
    let rest = stands xs k x is in
    omega (arith, rest)

has_one : (vs : Library) (n m : ℕ) → slice_get vs n ≡ None → n < m → m ≡ length vs → ⊥
has_one [] n m none below many = omega (arith, below, many)
has_one (v ∷ vs) zero m none below many = cc none
has_one (v ∷ vs) (suc n) zero none below many = omega (arith, below)
has_one (v ∷ vs) (suc n) (suc m) none below many =
    has_one vs n m none (omega (arith, below)) (omega (arith, many))

module _ (us vs : Library) (changed before after : List Bool)
    (marks : MarksChanged us vs changed) (old : MarksTouched us changed before) (new : MarksTouched vs changed after) where
  both_behind : (k : ℕ) → length changed ≤ k → slice_get us k ≡ slice_get vs k
  both_behind k l =
      let m : length changed ≡ max (length us) (length vs) = marks.as_many in
      let u : length us ≤ k = omega (arith, l, m) in
      let v : length vs ≤ k = omega (arith, l, m) in
      behind us k u ∙ sym (behind vs k v)

  -- what is not changed is the same in both
  same_at : (k : ℕ) → (slice_get changed k ≡ Some true → ⊥) → slice_get us k ≡ slice_get vs k
  same_at k not = by (marked changed k not)
    where
      by : (slice_get changed k ≡ Some false) ⊎ (length changed ≤ k) → slice_get us k ≡ slice_get vs k
      by (inl h) = marks.same k h
      by (inr l) = both_behind k l

  stale_at : (n : ℕ) → (slice_get after n ≡ Some true) ⊎ (slice_get before n ≡ Some true) → IsUnchanged us vs n → ⊥
  stale_at n (inl h) unchanged =
      let t = new.touched n h in
      marks.changed t.0 t.2 (unchanged.after t.0 t.1)
  stale_at n (inr h) unchanged =
      let t = old.touched n h in
      marks.changed t.0 t.2 (unchanged.before t.0 t.1)

  -- behind the old units nothing of the old closure is asked but the unit itself, which is new
  before_at : (n : ℕ) → (slice_get after n ≡ Some false) → (slice_get before n ≡ Some true → ⊥) → (k : ℕ) → IsInClosure us n k → slice_get changed k ≡ Some true → ⊥
  before_at n fresh not k has changed_k = by (marked before n not)
    where
      by : (slice_get before n ≡ Some false) ⊎ (length before ≤ n) → ⊥
      by (inl h) = old.untouched n k h has changed_k
      by (inr l) =
          let many : length before ≡ length us = old.as_many in
          let beyond : length us ≤ n = omega (arith, l, many) in
          let same = same_at n (λ c. new.untouched n n fresh own_unit c) in
          has_one vs n (length after) (sym same ∙ behind us n beyond) (stands after n false fresh) new.as_many

  pub stale : MarksStale us vs (either after before)
  stale = record {
    as_many = length_either after before ∙ new.as_many;
    stale = λ n set unchanged. stale_at n (set_in after before n set) unchanged;
    fresh = λ n not.
        let marks_at = not_set_in after before n not in
        record {
          before = λ k has. same_at k (before_at n marks_at.0 marks_at.1 k has);
          after = λ k has. same_at k (λ changed_k. new.untouched n k marks_at.0 has changed_k);
        };
  }

-- the same of what is lent, where there is a result
pub told_stale : {A E : Type 0} (items : A → List Bool) (r : Result A E) (us vs : Library) (changed one other before after a b : List Bool) → MarksChanged us vs changed
    → one ≡ changed → other ≡ changed → MarksTouched us one before → MarksTouched vs other after → a ≡ after → b ≡ before
    → IfOk r (λ v. items v ≡ either a b) → IfOk r (λ v. MarksStale us vs (items v))
told_stale items (Err e) us vs changed one other before after a b marks same_one same_other old new same_a same_b is = tt
told_stale items (Ok v) us vs changed one other before after a b marks same_one same_other old new same_a same_b is =
    subst (MarksStale us vs) (sym (is ∙ ap (λ ms. either ms b) same_a ∙ ap (λ ms. either after ms) same_b))
    (stale us vs changed before after marks (subst (λ ms. MarksTouched us ms before) same_one old) (subst (λ ms. MarksTouched vs ms after) same_other new))
