-- Verdicts put one after another.
use Rattle.std.proofs.Common.{◌≡◌, ℕ, zero, suc, ◌+◌, ◌<◌, ◌≤◌, All, List, [], ◌∷◌, ◌++◌, get_or, map, replicate, slice_get, slice_set, Some, refl, ap, subst, inr, length, ◌∙◌, arith, add-one}
use Rattle.std.specs.List.{range_with_len}
use Rattle.std.proofs.lemmas.List.{length-map, length-replicate}
use Rattle.std.proofs.lemmas.List.FromFn.{length-range_with_len, get_or-range_with_len}
use Rattle.lk_rulebook.specs.Units.{Library}
use Rattle.lk_verdict.specs.Told.{Verdict, IsPlainVerdict, out_of_memory}
use Rattle.lk_verdict.specs.declared.verdict.Verdict.{Verdict as HeldVerdict}
use Rattle.lk_verdict.specs.declared.verdict.Verdict.TheVariants.{Memory}
use Rattle.lk_verdict.specs.Held.{verdict}
use Rattle.lk_verdict.specs.Checked.{AreChecked}
use Rattle.lk_session.specs.Answers.{AreFrom}

-- the one verdict of one number
pub first_checked : (us : Library) (budget n : ℕ) (vs : List HeldVerdict) (v : HeldVerdict) → AreChecked us budget (n ∷ []) (map verdict vs) → slice_get vs 0 ≡ Some v → IsPlainVerdict us budget n (verdict v)
first_checked us budget n [] v a e = absurd cc
first_checked us budget n (w ∷ vs) v a e = let same : w ≡ v = cc in a.each 0 n (verdict v) refl (ap (λ (x : HeldVerdict). Some (verdict x)) same)

-- one is put at its place
put_at : (P : ℕ → Verdict → Type 0) (vs : List HeldVerdict) (k : ℕ) (a : HeldVerdict) → P k (verdict a) → ((j : ℕ) (w : Verdict) → slice_get (map verdict vs) j ≡ Some w → P j w)
    → (j : ℕ) (w : Verdict) → slice_get (map verdict (slice_set vs k a)) j ≡ Some w → P j w
put_at P [] k a is all j w at = all j w at
put_at P (x ∷ vs) zero a is all zero w at = let same : verdict a ≡ w = cc in subst (P 0) same is
put_at P (x ∷ vs) zero a is all (suc j) w at = all (suc j) w at
put_at P (x ∷ vs) (suc k) a is all zero w at = all zero w at
put_at P (x ∷ vs) (suc k) a is all (suc j) w at = put_at (λ i. P (suc i)) vs k a is (λ i. all (suc i)) j w at

pub put_from : (us : Library) (budget first : ℕ) (vs : List HeldVerdict) (k : ℕ) (v : HeldVerdict) → IsPlainVerdict us budget (first + k) (verdict v) → AreFrom us budget first (map verdict vs) → AreFrom us budget first (map verdict (slice_set vs k v))
put_from us budget first vs k v is all = put_at (λ i. IsPlainVerdict us budget (first + i)) vs k v is all

-- where nothing is said yet, each says memory
all_memory : (n j : ℕ) (w : Verdict) → slice_get (map verdict (replicate n Memory)) j ≡ Some w → w ≡ out_of_memory
all_memory zero j w at = absurd cc
all_memory (suc n) zero w at = cc
all_memory (suc n) (suc j) w at = all_memory n j w at

pub unanswered_from : (us : Library) (budget first n : ℕ) → AreFrom us budget first (map verdict (replicate n Memory))
unanswered_from us budget first n j w at = inr (all_memory n j w at)

-- and so are verdicts of any numbers
pub unanswered_checked : (us : Library) (budget : ℕ) (ns : List ℕ) (vs : List HeldVerdict) → vs ≡ replicate (length ns) Memory → AreChecked us budget ns (map verdict vs)
unanswered_checked us budget ns vs e = record {
  as_many = length-map vs verdict ∙ (ap (λ (l : List HeldVerdict). length l) e ∙ length-replicate (length ns) Memory);
  each = λ i n v a b. inr (all_memory (length ns) i v (subst (λ (l : List HeldVerdict). slice_get (map verdict l) i ≡ Some v) e b));
}

-- one number more behind numbers that go on from one
pub range_more : (a n : ℕ) → range_with_len a (n + 1) ≡ range_with_len a n ++ (a + n) ∷ []
range_more a n = rw add-one (go a n)
  where
    go : (b k : ℕ) → range_with_len b (suc k) ≡ range_with_len b k ++ (b + k) ∷ []
    go b zero = let e : b ≡ b + 0 = omega arith in ap (λ (m : ℕ). m ∷ []) e
    go b (suc k) =
        let e : b + 1 + k ≡ b + suc k = omega arith in
        ap (λ (l : List ℕ). b ∷ l) (go (b + 1) k ∙ ap (λ (m : ℕ). range_with_len (b + 1) k ++ m ∷ []) e)

get_some : {A : Type 0} (xs : List A) (k : ℕ) (d : A) → k < length xs → slice_get xs k ≡ Some (get_or xs k d)
get_some [] k d lt = absurd (omega arith)
get_some (x ∷ xs) zero d lt = refl
get_some (x ∷ xs) (suc k) d lt = get_some xs k d (omega arith)

get_within : {A : Type 0} (xs : List A) (k : ℕ) (x : A) → slice_get xs k ≡ Some x → k < length xs
get_within [] k x e = absurd cc
get_within (y ∷ xs) zero x e = omega arith
get_within (y ∷ xs) (suc k) x e = let l = get_within xs k x e in omega arith

-- verdicts of numbers that go on from one
pub checked_from : (us : Library) (budget first n : ℕ) (vs : List Verdict) → AreChecked us budget (range_with_len first n) vs → AreFrom us budget first vs
checked_from us budget first n vs c k v at =
    let size = length-range_with_len first n in
    let lt : k < n = omega (arith, get_within vs k v at, c.as_many, size) in
    let there : slice_get (range_with_len first n) k ≡ Some (first + k) = get_some (range_with_len first n) k 0 (omega (arith, lt, size)) ∙ ap (λ (m : ℕ). Some m) (get_or-range_with_len first n k 0 lt) in
    c.each k (first + k) v there at

-- and such numbers are below a count
pub range_below : (first n count : ℕ) → first + n ≤ count → All (λ m. m < count) (range_with_len first n)
range_below first n count le k d lt =
    let size = length-range_with_len first n in
    let at = get_or-range_with_len first n k d (omega (arith, lt, size)) in
    omega (arith, le, lt, size, at)
