-- Lambdas that are opened with arguments, in turn or at once.
use Rattle.std.proofs.Common.{◌≡◌, ℕ, zero, suc, ◌+◌, ◌≤◌, min, List, [], ◌∷◌, length, take, drop, refl, sym, ap, ◌∙◌, arith}
use Rattle.std.specs.Prelude.{All}
use Rattle.std.proofs.lemmas.List.Elements.{All-head, All-tail}
use Rattle.lk_tree.specs.Tree.{Tree, lam}
use Rattle.lk_tree.specs.Bind.{open_at, opened}
use Rattle.lk_tree.specs.Loose.{loose}
use Rattle.lk_tree.specs.Putting.{put}
use Rattle.lk_tree.specs.Spine.{apply}
use Rattle.lk_tree.proofs.Puttings.{put_nothing, put_more}
use Rattle.lk_questions.specs.Core.{beta, lambdas}
use Rattle.lk_replay_reduce.specs.Lambdas.{under}

-- nothing is left to open with
pub beta_none : (m : ℕ) (h : Tree) → beta m h [] ≡ h
beta_none zero h = refl
beta_none (suc m) (lam A b) = refl
beta_none (suc m) _ = refl

-- no more lambdas are opened than there are arguments
pub beta_fewer : (n m : ℕ) (h : Tree) (xs : List Tree) → n ≡ min m (length xs) → beta n h xs ≡ beta m h xs
beta_fewer zero zero h xs e = refl
beta_fewer zero (suc m) h [] e = sym (beta_none (suc m) h)
beta_fewer zero (suc m) h (x ∷ xs) e = absurd (omega arith)
beta_fewer (suc n) zero h xs e = absurd (omega arith)
beta_fewer (suc n) (suc m) h [] e = absurd (omega arith)
beta_fewer (suc n) (suc m) (lam A b) (x ∷ xs) e = beta_fewer n m (opened b x) xs (omega arith)
beta_fewer (suc n) (suc m) _ (x ∷ xs) e = refl

-- lambdas stay where a value is put
lambdas_open : (d : ℕ) (v b : Tree) → lambdas b ≤ lambdas (open_at d v b)
unfolding open_at
lambdas_open d v (lam A b) = let inner = lambdas_open (suc d) v b in omega arith
lambdas_open d v _ = omega arith

under_open : (n d : ℕ) (v b : Tree) → n ≤ lambdas b → under n (open_at d v b) ≡ open_at (n + d) v (under n b)
unfolding open_at
under_open zero d v b l = ap (λ k. open_at k v b) (omega arith)
under_open (suc n) d v (lam A b) l = under_open n (suc d) v b (omega arith) ∙ ap (λ k. open_at k v (under n b)) (omega arith)
under_open (suc n) d v _ l = absurd (omega arith)

length_front : (n : ℕ) (xs : List Tree) → n ≤ length xs → length (take n xs) ≡ n
length_front zero xs l = refl
length_front (suc n) [] l = absurd (omega arith)
length_front (suc n) (x ∷ xs) l = ap suc (length_front n xs (omega arith))

-- closed arguments are put at once as they are in turn
pub put_is_beta : (n : ℕ) (h : Tree) (xs : List Tree) → n ≤ lambdas h → n ≤ length xs → All (λ x. loose x ≡ 0) (take n xs) → apply (put (take n xs) (under n h)) (drop n xs) ≡ beta n h xs
put_is_beta zero h xs l k c = ap (λ e. apply e xs) (put_nothing 0 h)
put_is_beta (suc n) h [] l k c = absurd (omega arith)
put_is_beta (suc n) (lam A b) (x ∷ xs) l k c =
    let closed : loose x ≡ 0 = All-head (λ y. loose y ≡ 0) x (take n xs) c in
    let others : All (λ y. loose y ≡ 0) (take n xs) = All-tail (λ y. loose y ≡ 0) x (take n xs) c in
    let stay = lambdas_open 0 x b in
    let place : 0 + length (take n xs) ≡ n + 0 = let len = length_front n xs (omega arith) in omega arith in
    ap (λ e. apply e (drop n xs))
    (put_more x (take n xs) 0 (under n b) closed
    ∙ (ap (λ d. put (take n xs) (open_at d x (under n b))) place
    ∙ ap (put (take n xs)) (sym (under_open n 0 x b (omega arith)))))
    ∙ put_is_beta n (opened b x) xs (omega arith) (omega arith) others
put_is_beta (suc n) _ (x ∷ xs) l k c = absurd (omega arith)

-- one lambda further down
pub under_next : (n : ℕ) (h A b : Tree) → under n h ≡ lam A b → under (suc n) h ≡ b
under_next zero h A b e = rw e refl
under_next (suc n) (lam A' b') A b e = under_next n b' A b e
under_next (suc n) _ A b e = absurd (cc)
