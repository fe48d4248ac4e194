-- How many units the first texts have.
use Rattle.std.proofs.Common.{◌≡◌, ℕ, zero, suc, ◌+◌, ◌<◌, ◌≤◌, List, [], ◌∷◌, length, take, refl, ap, ◌∙◌, arith, length-append}
use Rattle.std.specs.Prelude.{Vec}
use Rattle.std.specs.declared.alloc.Global.{Global}
use Rattle.lk_env.proofs.Members.{flat_map_more}
use Rattle.lk_session.specs.Texts.{Says, units_in}
use Rattle.lk_callers.specs.Owned.{all_units, bytes_in, text_at}
use Rattle.lk_callers.proofs.Calls.{within}

pub count_more : (stated : Says) (texts : List (Vec ℕ Global)) (i units count : ℕ) (text : List ℕ) → i < length texts → text ≡ text_at (bytes_in texts) i → count ≡ length (units_in stated text)
    → units ≡ length (all_units stated (take i (bytes_in texts))) → units + count ≡ length (all_units stated (take (i + 1) (bytes_in texts)))
count_more stated texts i units count text lt is n m =
    let more = flat_map_more (units_in stated) (bytes_in texts) i [] (within texts i lt) in
    let one : count ≡ length (units_in stated (text_at (bytes_in texts) i)) = n ∙ ap (λ (t : List ℕ). length (units_in stated t)) is in
    let sum : length (all_units stated (take (i + 1) (bytes_in texts))) ≡ length (all_units stated (take i (bytes_in texts))) + length (units_in stated (text_at (bytes_in texts) i)) =
    ap length more ∙ length-append (all_units stated (take i (bytes_in texts))) (units_in stated (text_at (bytes_in texts) i)) in
    omega arith

pub some_fewer : (stated : Says) (ts : List (List ℕ)) (i : ℕ) → length (all_units stated (take i ts)) ≤ length (all_units stated ts)
some_fewer stated ts zero = omega arith
some_fewer stated [] (suc i) = omega arith
some_fewer stated (t ∷ ts) (suc i) =
    let r = some_fewer stated ts i in
    let a = length-append (units_in stated t) (all_units stated (take i ts)) in
    let b = length-append (units_in stated t) (all_units stated ts) in
    omega arith

take_all : {A : Type 0} (xs : List A) (n : ℕ) → length xs ≤ n → take n xs ≡ xs
take_all [] zero le = refl
take_all [] (suc n) le = refl
take_all (x ∷ xs) zero le = absurd (omega arith)
take_all {A} (x ∷ xs) (suc n) le = ap (λ (l : List A). x ∷ l) (take_all xs n (omega arith))

pub count_all : (stated : Says) (ts : List (List ℕ)) (i units : ℕ) → length ts ≤ i → units ≡ length (all_units stated (take i ts)) → units ≡ length (all_units stated ts)
count_all stated ts i units le n = n ∙ ap (λ (l : List (List ℕ)). length (all_units stated l)) (take_all ts i le)
