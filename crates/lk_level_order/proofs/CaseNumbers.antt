-- The numbers of cases.
use Rattle.std.proofs.Common.{ℕ, zero, suc, ◌≡◌, ◌≢◌, ◌<◌, ◌+◌, ◌*◌, ◌/◌, ◌%◌, ◌^◌, ◌||◌, true, false, nat_eq, nat_lt, List, [], ◌∷◌, map, take, drop, length, get_or, refl, ap, ◌∙◌, arith, pow-suc, inl, inr, ◌⊎◌, if◌then◌else◌}
use Rattle.std.proofs.lemmas.Bool.Decides.{nat_tests}
use Rattle.std.specs.Int.RustNames.{bit_or}
use Rattle.std.proofs.lemmas.Nat.{or_shr, or_mod, or_shifted, shr-shr}
use Rattle.lk_tree.specs.Tree.{Name}
use Rattle.lk_tree.specs.Mentions.{same_name, is_one_of}
use Rattle.lk_tree.proofs.LevelTests.{if_cases, in_first, in_rest, name_is, name_same}
use Rattle.lk_level_order.specs.Parameters.{AreDifferent}
use Rattle.lk_level_order.specs.Digits.{has_one, with_one, sign, case_of}
use Rattle.lk_level_order.proofs.Names.{in_not}
use Rattle.lk_level_order.proofs.Digits.{number_of, last_digit, other_digits}
use Rattle.lk_level_order.proofs.Tested.{name_in}

-- what the operations on machine numbers do
pub has_one_is : (x n : ℕ) → nat_eq ((x / 2 ^ n) % 2) 1 ≡ has_one x n
has_one_is x zero = let e : x / 2 ^ 0 ≡ x = omega arith in rw e refl
has_one_is x (suc n) = let e : x / 2 / 2 ^ n ≡ x / 2 ^ (1 + n) = shr-shr x 1 n in let f : 1 + n ≡ suc n = omega arith in rw (← f, ← e) (has_one_is (x / 2) n)

two_cases : (b : ℕ) → b < 2 → (b ≡ 0) ⊎ (b ≡ 1)
two_cases b h = grind arith

or_none : (x : ℕ) → bit_or x 0 ≡ x
or_none x = let e : bit_or (x * 1) 0 ≡ x * 1 + 0 = or_shifted x 0 0 (omega arith) in let f : x * 1 ≡ x = omega arith in rw f at e ∙ (let g : x + 0 ≡ x = omega arith in g)

or_one : (b : ℕ) → b < 2 → bit_or b 1 ≡ 1
or_one b h = elim (two_cases b h) [ inl e ↦ rw e refl | inr e ↦ rw e refl ]

or_digits : (a b : ℕ) → a < 2 → b < 2 → nat_eq (bit_or a b) 1 ≡ (nat_eq a 1 || nat_eq b 1)
or_digits a b h i = elim (two_cases a h) [
  | inl e ↦ elim (two_cases b i) [ inl f ↦ rw (e, f) refl | inr f ↦ rw (e, f) refl ]
  | inr e ↦ elim (two_cases b i) [ inl f ↦ rw (e, f) refl | inr f ↦ rw (e, f) refl ]
]

or_low : (x y : ℕ) → bit_or x y % 2 ≡ bit_or (x % 2) (y % 2)
or_low x y = or_mod x y 1

or_high : (x y : ℕ) → bit_or x y / 2 ≡ bit_or (x / 2) (y / 2)
or_high x y = or_shr x y 1

pub with_one_is : (x n : ℕ) → bit_or x (2 ^ n) ≡ with_one x n
with_one_is x zero =
    let low : bit_or x 1 % 2 ≡ 1 = or_low x 1 ∙ or_one (x % 2) (omega arith) in
    let high : bit_or x 1 / 2 ≡ x / 2 = or_high x 1 ∙ or_none (x / 2) in
    omega arith
with_one_is x (suc n) =
    let power : 2 ^ suc n ≡ 2 ^ n * 2 = pow-suc 2 n in
    let even : 2 ^ suc n % 2 ≡ 0 = omega arith in
    let half : 2 ^ suc n / 2 ≡ 2 ^ n = omega arith in
    let low : bit_or x (2 ^ suc n) % 2 ≡ x % 2 = or_low x (2 ^ suc n) ∙ ap (bit_or (x % 2)) even ∙ or_none (x % 2) in
    let high : bit_or x (2 ^ suc n) / 2 ≡ with_one (x / 2) n = or_high x (2 ^ suc n) ∙ ap (bit_or (x / 2)) half ∙ with_one_is (x / 2) n in
    omega arith

pub or_has : (x y n : ℕ) → has_one (bit_or x y) n ≡ (has_one x n || has_one y n)
or_has x y zero = ap (λ b. nat_eq b 1) (or_low x y) ∙ or_digits (x % 2) (y % 2) (omega arith) (omega arith)
or_has x y (suc n) = ap (λ z. has_one z n) (or_high x y) ∙ or_has (x / 2) (y / 2) n

pub has_none : (n : ℕ) → has_one 0 n ≡ false
has_none zero = refl
has_none (suc n) = has_none n

-- a case tells which names are above 0
pub sign_small : (v : ℕ) → sign v < 2
sign_small zero = omega arith
sign_small (suc v) = omega arith

sign_test : (v : ℕ) → nat_eq (sign v) 1 ≡ nat_lt 0 v
sign_test zero = refl
sign_test (suc v) = grind (arith, nat_tests)

pub has_one_of : (ns : List Name) (σ : Name → ℕ) (n : ℕ) → n < length ns → has_one (case_of ns σ) n ≡ nat_lt 0 (σ (get_or ns n []))
has_one_of [] σ n h = absurd (omega arith)
has_one_of (m ∷ ms) σ zero h = rw (last_digit (sign (σ m)) (case_of ms σ) (sign_small (σ m))) (sign_test (σ m))
has_one_of (m ∷ ms) σ (suc n) h = rw (other_digits (sign (σ m)) (case_of ms σ) (sign_small (σ m))) (has_one_of ms σ n (omega arith))

pub case_same : (ns : List Name) (f g : Name → ℕ) → ((n : Name) → is_one_of ns n ≡ true → f n ≡ g n) → case_of ns f ≡ case_of ns g
case_same [] f g h = refl
case_same (n ∷ ns) f g h =
    let a = h n (in_first n ns n (name_same n)) in
    let b = case_same ns f g (λ m i. h m (in_rest n ns m i)) in
    rw (a, b) refl

pub case_of_zero : (ns : List Name) → case_of ns (λ n. 0) ≡ 0
case_of_zero [] = refl
case_of_zero (n ∷ ns) = rw (case_of_zero ns) refl

-- with the value of one name
abbrev pub raised : (Name → ℕ) → (Name → ℕ) → Name → Name → ℕ
raised τ σ p m = if same_name m p then σ m else τ m

pub raised_here : (τ σ : Name → ℕ) (p : Name) → raised τ σ p p ≡ σ p
raised_here τ σ p = rw (name_same p) refl

pub raised_other : (τ σ : Name → ℕ) (p m : Name) → m ≢ p → raised τ σ p m ≡ τ m
raised_other τ σ p m h = elim (if_cases (same_name m p) (σ m) (τ m)) [
  | inl e ↦ absurd (h (name_is m p e.0))
  | inr e ↦ e.1
]

sign_one : (v : ℕ) → 0 < v → sign v ≡ 1
sign_one zero h = absurd (omega arith)
sign_one (suc v) h = refl

pub case_raised : (ns : List Name) (τ σ : Name → ℕ) (n : ℕ) → AreDifferent ns → n < length ns → 0 < σ (get_or ns n [])
    → case_of ns (raised τ σ (get_or ns n [])) ≡ with_one (case_of ns τ) n
case_raised [] τ σ n d h a = absurd (omega arith)
case_raised (m ∷ ms) τ σ zero d h a =
    let one : sign (raised τ σ m m) ≡ 1 = ap sign (raised_here τ σ m) ∙ sign_one (σ m) a in
    let others : case_of ms (raised τ σ m) ≡ case_of ms τ = case_same ms (raised τ σ m) τ
    (λ n i. raised_other τ σ m n (λ s. in_not ms m (rw s at i) d.0)) in
    let rest = other_digits (sign (τ m)) (case_of ms τ) (sign_small (τ m)) in
    rw (one, others, rest) refl
case_raised (m ∷ ms) τ σ (suc n) d h a =
    let p = get_or ms n [] in
    let inside : is_one_of ms p ≡ true = name_in ms n (omega arith) in
    let same : sign (raised τ σ p m) ≡ sign (τ m) = ap sign (raised_other τ σ p m (λ s. in_not ms m (rw (← s) at inside) d.0)) in
    let others = case_raised ms τ σ n d.1 (omega arith) a in
    let first = last_digit (sign (τ m)) (case_of ms τ) (sign_small (τ m)) in
    let rest = other_digits (sign (τ m)) (case_of ms τ) (sign_small (τ m)) in
    rw (same, others, first, rest) refl

-- a case is the number of those values that are 1 where the names are above 0
pub number_is : (ns : List Name) (k : ℕ) (f τ : Name → ℕ) → ((n : Name) → is_one_of (take k ns) n ≡ true → f n ≡ sign (τ n))
    → ((n : Name) → is_one_of (drop k ns) n ≡ true → f n ≡ 0) → number_of (map f ns) ≡ case_of (take k ns) τ
number_is [] zero f τ g z = refl
number_is [] (suc k) f τ g z = refl
number_is (n ∷ ns) zero f τ g z = let a = z n (in_first n ns n (name_same n)) in let b = number_is ns zero f τ (λ m i. absurd cc) (λ m i. z m (in_rest n ns m i)) in omega arith
number_is (n ∷ ns) (suc k) f τ g z =
    let a = g n (in_first n (take k ns) n (name_same n)) in
    let b = number_is ns k f τ (λ m i. g m (in_rest n (take k ns) m i)) z in
    omega arith

pub case_small : (ns : List Name) (σ : Name → ℕ) → case_of ns σ < 2 ^ length ns
case_small [] σ = omega arith
case_small (n ∷ ns) σ =
    let rest = case_small ns σ in
    let power : 2 ^ suc (length ns) ≡ 2 ^ length ns * 2 = pow-suc 2 (length ns) in
    let first = sign_small (σ n) in
    omega arith
