-- A numbering's list of low numbers, as it grows and is written over, and the map beside it.
use Rattle.std.proofs.Common.{◌≡◌, ◌≢◌, ℕ, zero, suc, ◌<◌, ◌≤◌, ◌==◌, List, [], ◌∷◌, ◌++◌, length, Some, None, refl, ap, arith, inl, inr}
use Rattle.std.specs.Prelude.{nat_eq, slice_get, slice_set, if◌then◌else◌}
use Rattle.std.specs.Map.{lookup}
use Rattle.std.specs.declared.option.Option.{Option}
use Rattle.std.proofs.lemmas.Bool.Decides.{eqb_tells}
use Rattle.std.proofs.lemmas.Option.{slice_get_past}
use Rattle.lk_units.specs.Numbering.{or_else}

end_at : (xs : List ℕ) (x : ℕ) → slice_get (xs ++ x ∷ []) (length xs) ≡ Some x
end_at [] x = refl
end_at (y ∷ xs) x = end_at xs x

end_off : (xs : List ℕ) (x q : ℕ) → q ≢ length xs → slice_get (xs ++ x ∷ []) q ≡ slice_get xs q
end_off [] x zero ne = absurd (ne refl)
end_off [] x (suc q) ne = refl
end_off (y ∷ xs) x zero ne = refl
end_off (y ∷ xs) x (suc q) ne = end_off xs x q (λ e. ne (ap suc e))

set_at : (xs : List ℕ) (n x : ℕ) → n < length xs → slice_get (slice_set xs n x) n ≡ Some x
set_at [] n x lt = absurd (omega arith)
set_at (y ∷ xs) zero x lt = refl
set_at (y ∷ xs) (suc n) x lt = set_at xs n x (omega arith)

set_off : (xs : List ℕ) (n x q : ℕ) → q ≢ n → slice_get (slice_set xs n x) q ≡ slice_get xs q
set_off [] n x q ne = refl
set_off (y ∷ xs) zero x zero ne = absurd (ne refl)
set_off (y ∷ xs) zero x (suc q) ne = refl
set_off (y ∷ xs) (suc n) x zero ne = refl
set_off (y ∷ xs) (suc n) x (suc q) ne = set_off xs n x q (λ e. ne (ap suc e))

-- one more at the end has the next number
pub next_entry : (xs : List ℕ) (x q : ℕ) (other : Option ℕ) → or_else (slice_get (xs ++ x ∷ []) q) other ≡ (if q == length xs then Some x else or_else (slice_get xs q) other)
next_entry xs x q other = elim (eqb_tells q (length xs)) [
  | inl (t, e) ↦ let at : slice_get (xs ++ x ∷ []) q ≡ Some x = rw e (end_at xs x) in rw (t, at) refl
  | inr (t, ne) ↦ rw (t, end_off xs x q ne) refl
]

-- one of the list is written over
pub low_entry : (xs : List ℕ) (n x q : ℕ) (other : Option ℕ) → n < length xs → or_else (slice_get (slice_set xs n x) q) other ≡ (if q == n then Some x else or_else (slice_get xs q) other)
low_entry xs n x q other lt = elim (eqb_tells q n) [
  | inl (t, e) ↦ let at : slice_get (slice_set xs n x) q ≡ Some x = rw e (set_at xs n x lt) in rw (t, at) refl
  | inr (t, ne) ↦ rw (t, set_off xs n x q ne) refl
]

-- the map gets one that the list does not reach
pub other_entry : (xs : List ℕ) (n x q : ℕ) (old new : Option ℕ) → length xs ≤ n → new ≡ (if q == n then Some x else old) → or_else (slice_get xs q) new ≡ (if q == n then Some x else or_else (slice_get xs q) old)
other_entry xs n x q old new le h = elim (eqb_tells q n) [
  | inl (t, e) ↦ let none : slice_get xs q ≡ None = slice_get_past xs q (omega arith) in let is : new ≡ Some x = rw t at h in rw (t, none, is) refl
  | inr (t, ne) ↦ let is : new ≡ old = rw t at h in rw (t, is) refl
]

-- a map without entries has nothing
pub none_there : (es : List (ℕ × ℕ)) (n : ℕ) → length es ≡ 0 → lookup (λ k. nat_eq n k) es ≡ None
none_there [] n e = refl
none_there (x ∷ es) n e = absurd (omega arith)
