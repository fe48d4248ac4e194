-- Shards in memory.
use Rattle.std.proofs.Common.{◌≡◌, ◌≢◌, ℕ, zero, suc, ◌<◌, List, [], ◌∷◌, All, length, get_or, set, refl, ap, arith}
use Rattle.lk_desk.specs.declared.shard.Shard.{Shard}
use Rattle.lk_desk.specs.Job.{Job}
use Rattle.lk_desk.specs.Truth.{entries_of}
use Rattle.lk_desk.proofs.Truths.{none_false}
use Rattle.lk_desk.specs.Memory.{AllTrue, entries_at}

pub entries_set : (xs : List Shard) (i : ℕ) (x : Shard) → i < length xs → entries_at (set xs i x) i ≡ entries_of x
entries_set [] i x lt = absurd (omega arith)
entries_set (y ∷ xs) zero x lt = refl
entries_set (y ∷ xs) (suc i) x lt = entries_set xs i x (omega (arith, lt))

pub entries_else : (xs : List Shard) (i j : ℕ) (x : Shard) → j ≢ i → entries_at (set xs i x) j ≡ entries_at xs j
entries_else [] i j x ne = refl
entries_else (y ∷ xs) zero zero x ne = absurd (ne refl)
entries_else (y ∷ xs) zero (suc j) x ne = refl
entries_else (y ∷ xs) (suc i) zero x ne = refl
entries_else (y ∷ xs) (suc i) (suc j) x ne = entries_else xs i j x (λ e. ne (ap suc e))

pub entries_get : (xs : List Shard) (i : ℕ) (d : Shard) → i < length xs → entries_of (get_or xs i d) ≡ entries_at xs i
entries_get [] i d lt = absurd (omega arith)
entries_get (y ∷ xs) zero d lt = refl
entries_get (y ∷ xs) (suc i) d lt = entries_get xs i d (omega (arith, lt))

pub entries_empty : (xs : List Shard) → All (λ x. (entries_of x) ≡ []) xs → (k : ℕ) → entries_at xs k ≡ []
entries_empty [] each k = refl
entries_empty (y ∷ xs) each zero = each 0 y (omega arith)
entries_empty (y ∷ xs) each (suc k) = entries_empty xs (λ i d lt. each (suc i) d (omega (arith, lt))) k

pub true_of_empty : (job : Job) (xs : List Shard) → All (λ x. (entries_of x) ≡ []) xs → AllTrue job xs
true_of_empty job xs each k d lt = none_false job _ (each k d lt)
