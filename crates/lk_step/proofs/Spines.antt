-- A function applied to arguments, and where such a tree is cut into them.
use Rattle.std.proofs.Common.{ℕ, ◌≡◌, ◌<◌, ◌≤◌, Bool, true, false, List, [], ◌∷◌, ◌++◌, length, Some, refl, ap, ◌∙◌, if◌then◌else◌, arith, length-append}
use Rattle.std.proofs.lemmas.List.{append-nil}
use Rattle.lk_tree.specs.Tree.{Tree, app, lam, let_in}
use Rattle.lk_tree.specs.Spine.{apply, head, args}
use Rattle.lk_questions.specs.Steps.{is_same_tree}
use Rattle.lk_claims.proofs.Facts.{same_self}
use Rattle.lk_claims.proofs.Pieces.{same_tree}
use Rattle.lk_written.specs.Premises.{arguments_over}
use Rattle.lk_written_sound.proofs.MajorRules.{head_applied, args_applied}

pub lam_head : (A b : Tree) (xs : List Tree) → head (apply (lam A b) xs) ≡ lam A b
unfolding head
lam_head A b xs = head_applied (lam A b) xs

pub lam_args : (A b : Tree) (xs : List Tree) → args (apply (lam A b) xs) ≡ xs
unfolding args
lam_args A b xs = args_applied (lam A b) xs

pub let_head : (A v b : Tree) (xs : List Tree) → head (apply (let_in A v b) xs) ≡ let_in A v b
unfolding head
let_head A v b xs = head_applied (let_in A v b) xs

pub let_args : (A v b : Tree) (xs : List Tree) → args (apply (let_in A v b) xs) ≡ xs
unfolding args
let_args A v b xs = args_applied (let_in A v b) xs

one_more : (ys : List Tree) (y : Tree) (n : ℕ) → n ≤ length ys → n < length (ys ++ (y ∷ []))
one_more ys y n l = omega (arith, length-append ys (y ∷ []))

more_args : (h y : Tree) (n : ℕ) → n ≤ length (args h) → n < length (args (app h y))
unfolding args
more_args h y n l = one_more (args h) y n l

-- trees with other numbers of arguments are two
not_longer : (f h : Tree) → length (args f) < length (args h) → is_same_tree h f ≡ true → ⊥
not_longer f h l t =
    let e : h ≡ f = same_tree h f t in
    let m : length (args h) ≡ length (args f) = ap (λ (z : Tree). length (args z)) e in
    omega arith

-- a function that has more arguments than f is cut within it
over_more : (f h : Tree) (ys zs : List Tree) → length (args f) < length (args h) → arguments_over f (apply h ys) zs ≡ arguments_over f h (ys ++ zs)
over_more f h [] zs l = refl
over_more f h (y ∷ ys) zs l = over_more f (app h y) ys zs (more_args h y (length (args f)) (omega arith)) ∙ step (is_same_tree h f) refl
  where
    step : (b : Bool) → is_same_tree h f ≡ b → (if b then Some (y ∷ (ys ++ zs)) else arguments_over f h (y ∷ (ys ++ zs))) ≡ arguments_over f h (y ∷ (ys ++ zs))
    step true t = absurd (not_longer f h l t)
    step false t = refl

-- f applied to arguments is cut at f
pub arguments_there : (f x : Tree) (xs : List Tree) → arguments_over f (apply f (x ∷ xs)) [] ≡ Some (x ∷ xs)
arguments_there f x xs = over_more f (app f x) xs [] (more_args f x (length (args f)) (omega arith)) ∙ at_last (is_same_tree f f) (same_self f)
  where
    at_last : (b : Bool) → b ≡ true → (if b then Some (x ∷ (xs ++ [])) else arguments_over f f (x ∷ (xs ++ []))) ≡ Some (x ∷ xs)
    at_last true t = ap (λ ys. Some (x ∷ ys)) (append-nil xs)
    at_last false t = absurd cc
