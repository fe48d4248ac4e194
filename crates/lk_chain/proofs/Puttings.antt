-- Values put at once, one more after the others; what is loose in a body that is opened.
use Rattle.std.proofs.Common.{◌≡◌, ℕ, suc, ◌+◌, ◌≤◌, refl, List, [], ◌∷◌, ◌++◌, length, ap, sym, ◌∙◌, arith}
use Rattle.std.specs.Prelude.{All}
use Rattle.std.proofs.lemmas.List.Elements.{All-head, All-tail}
use Rattle.lk_tree.specs.Tree.{Tree, var, sort, const, app, lam, pi, let_in, proj, lit, wide, str, local}
use Rattle.lk_tree.specs.Bind.{open_at, open_var}
use Rattle.lk_tree.specs.Loose.{loose}
use Rattle.lk_tree.specs.Putting.{put_at}
use Rattle.lk_tree.proofs.Binding.{Opening, opening, below, at, above}
use Rattle.lk_tree.proofs.Puttings.{put_more, put_nothing}

length-last : (xs : List Tree) (x : Tree) → length (xs ++ x ∷ []) ≡ suc (length xs)
length-last [] x = refl
length-last (y ∷ xs) x = ap suc (length-last xs x)

-- the trees of a list hold no loose variables
abbrev pub NoneLoose : List Tree → Type 0
NoneLoose = All (λ x. loose x ≡ 0)

-- a body that is opened after values were put is one in which one value more was put
pub put_last : (xs : List Tree) (x : Tree) (d : ℕ) (e : Tree) → NoneLoose xs → loose x ≡ 0 → open_at d x (put_at xs (suc d) e) ≡ put_at (xs ++ x ∷ []) d e
put_last [] x d e h z =
    ap (open_at d x) (put_nothing (suc d) e)
    ∙ (ap (λ n. open_at n x e) (let n : d ≡ d + 0 = omega arith in n)
    ∙ sym (put_more x [] d e z ∙ put_nothing d (open_at (d + 0) x e)))
put_last (y ∷ xs) x d e h z =
    let P : Tree → Type 0 = λ t. loose t ≡ 0 in
    let first : loose y ≡ 0 = All-head P y xs h in
    let n : suc d + length xs ≡ d + length (xs ++ x ∷ []) = (let l = length-last xs x in omega arith) in
    ap (open_at d x) (put_more y xs (suc d) e first)
    ∙ (put_last xs x d (open_at (suc d + length xs) y e) (All-tail P y xs h) z
    ∙ (ap (λ m. put_at (xs ++ x ∷ []) d (open_at m y e)) n ∙ sym (put_more y (xs ++ x ∷ []) d e first)))

-- a tree that is opened has one loose variable less
pub open_loose : (d : ℕ) (v e : Tree) → loose v ≡ 0 → loose e ≤ suc d → loose (open_at d v e) ≤ d
unfolding open_at
open_loose d v (var i) z h = of_var (opening d i v)
  where
    of_var : Opening d i v → loose (open_var d v i) ≤ d
    of_var (below l e) = rw e (omega arith)
    of_var (at l e) = rw e (omega arith)
    of_var (above l e) = absurd (omega arith)
open_loose d v (sort l) z h = omega arith
open_loose d v (const c ls) z h = omega arith
open_loose d v (app f a) z h = let p = open_loose d v f z (omega arith) in let q = open_loose d v a z (omega arith) in omega arith
open_loose d v (lam A b) z h = let p = open_loose d v A z (omega arith) in let q = open_loose (suc d) v b z (omega arith) in omega arith
open_loose d v (pi A b) z h = let p = open_loose d v A z (omega arith) in let q = open_loose (suc d) v b z (omega arith) in omega arith
open_loose d v (let_in A a b) z h =
    let p = open_loose d v A z (omega arith) in let q = open_loose d v a z (omega arith) in
    let r = open_loose (suc d) v b z (omega arith) in omega arith
open_loose d v (proj S i s) z h = open_loose d v s z h
open_loose d v (lit n) z h = omega arith
open_loose d v wide z h = omega arith
open_loose d v (str s) z h = omega arith
open_loose d v (local k T) z h = omega arith
