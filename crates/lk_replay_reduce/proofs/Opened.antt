-- Arguments by numbers, put or opened with while the store grows.
use Rattle.std.proofs.Common.{◌≡◌, ℕ, zero, suc, ◌-◌, ◌≤◌, ◌<◌, min, List, [], ◌∷◌, length, map, take, drop, refl, sym, ap, subst, ◌∙◌, arith}
use Rattle.std.specs.Prelude.{All}
use Rattle.std.proofs.lemmas.List.{take-map, drop-map, length-map}
use Rattle.std.proofs.lemmas.List.Elements.{All-same, All-drop, All-map}
use Rattle.lk_tree.specs.Tree.{Tree, lam}
use Rattle.lk_tree.specs.Bind.{opened}
use Rattle.lk_tree.specs.Loose.{loose}
use Rattle.lk_tree.specs.Putting.{put}
use Rattle.lk_tree.specs.Spine.{apply}
use Rattle.lk_questions.specs.Core.{beta, lambdas}
use Rattle.lk_store.specs.Contents.{Contents, tree_at, tree_of, Extends}
use Rattle.lk_store.specs.declared.node.Node.{Node}
use Rattle.lk_store.specs.declared.node.Node.TheVariants.{Var, Sort, Const, App, Lam, Pi, Let, Proj, Lit, Wide, Str, Local}
use Rattle.lk_subst.specs.Numbers.{trees-steady}
use Rattle.lk_replay_reduce.specs.Lambdas.{under}
use Rattle.lk_replay_reduce.proofs.Lambdas.{beta_none, beta_fewer, put_is_beta}

-- closed arguments are put, and what is there is applied to the others
pub put_applied : (c d : Contents) (e body count : ℕ) (args values others : List ℕ) (h : Tree) → Extends c d → All (λ a. a < length c.trees) args → values ≡ take count args → others ≡ drop count args
    → tree_at d e ≡ put (map (tree_at c) values) (tree_at c body) → tree_at c body ≡ under count h → count ≤ lambdas h → count ≤ length args → All (λ v. loose (tree_at c v) ≡ 0) (take count args)
    → apply (tree_at d e) (map (tree_at d) others) ≡ beta count h (map (tree_at c) args)
put_applied c d e body count args values others h x known front back is body_is few enough closed =
    let rest : map (tree_at d) (drop count args) ≡ drop count (map (tree_at c) args) = trees-steady c d (drop count args) x (All-drop (λ a. a < length c.trees) count args known) ∙ sym (drop-map (tree_at c) count args) in
    let first : map (tree_at c) (take count args) ≡ take count (map (tree_at c) args) = sym (take-map (tree_at c) count args) in
    let enough' : count ≤ length (map (tree_at c) args) = let long = length-map args (tree_at c) in omega arith in
    let closed' : All (λ t. loose t ≡ 0) (take count (map (tree_at c) args)) =
    All-same (λ t. loose t ≡ 0) (take count (map (tree_at c) args)) (map (tree_at c) (take count args)) (take-map (tree_at c) count args) (All-map (λ t. loose t ≡ 0) (tree_at c) (take count args) closed) in
    rw (is, front, back, body_is, rest, first) (put_is_beta count h (map (tree_at c) args) few enough' closed')

-- one lambda is opened
pub one_opened : (left : ℕ) (e e' A b v v' : Tree) (xs : List Tree) (whole : Tree) → 0 < left → lam A b ≡ e → e' ≡ opened b v' → v' ≡ v → beta left e (v ∷ xs) ≡ whole → beta (left - 1) e' xs ≡ whole
one_opened zero e e' A b v v' xs whole some is made same h = absurd (omega arith)
one_opened (suc n) e e' A b v v' xs whole some is made same h =
    ap (λ k. beta k e' xs) (omega arith) ∙ (ap (λ t. beta n t xs) (made ∙ ap (opened b) same) ∙ (ap (λ t. beta (suc n) t (v ∷ xs)) is ∙ h))

-- no argument is left
pub all_taken : (left : ℕ) (e : Tree) (f : ℕ → Tree) (xs : List ℕ) → length xs ≡ 0 → e ≡ beta left e (map f xs)
all_taken left e f [] h = sym (beta_none left e)
all_taken left e f (x ∷ xs) h = absurd (omega arith)

-- no lambda is left to be opened
pub none_left : (e : Tree) (xs : List Tree) (left : ℕ) → left ≡ 0 → beta left e xs ≡ apply e xs
none_left e xs left z = rw z refl

pub no_lambda : (c : Contents) (node : Node) (e : Tree) (xs : List Tree) (left : ℕ) → tree_of c node ≡ e → ((A b : ℕ) → node ≡ Lam A b → ⊥) → beta left e xs ≡ apply e xs
no_lambda c node e xs left is none = subst (λ t. beta left t xs ≡ apply t xs) is (go node left none)
  where
    go : (node : Node) (left : ℕ) → ((A b : ℕ) → node ≡ Lam A b → ⊥) → beta left (tree_of c node) xs ≡ apply (tree_of c node) xs
    go node zero none = refl
    go (Lam A b) (suc n) none = absurd (none A b refl)
    go (Var i) (suc n) none = refl
    go (Sort l) (suc n) none = refl
    go (Const x ls) (suc n) none = refl
    go (App f a) (suc n) none = refl
    go (Pi A b) (suc n) none = refl
    go (Let A v b) (suc n) none = refl
    go (Proj S i s) (suc n) none = refl
    go (Lit n) (suc m) none = refl
    go Wide (suc n) none = refl
    go (Str s) (suc n) none = refl
    go (Local k T) (suc n) none = refl

-- no more lambdas are opened, and the rest is applied
pub rest_applied : (c d : Contents) (e whole : Tree) (rest : List ℕ) (left : ℕ) → Extends c d → All (λ a. a < length c.trees) rest
    → beta left e (map (tree_at c) rest) ≡ apply e (map (tree_at c) rest) → beta left e (map (tree_at c) rest) ≡ whole → apply e (map (tree_at d) rest) ≡ whole
rest_applied c d e whole rest left x known stop h = ap (apply e) (trees-steady c d rest x known) ∙ (sym stop ∙ h)

-- as many lambdas as there are arguments for
pub most_opened : (c : Contents) (count : ℕ) (h : Tree) (args : List ℕ) → count ≡ min (lambdas h) (length args) → beta count h (map (tree_at c) args) ≡ beta (lambdas h) h (map (tree_at c) args)
most_opened c count h args e = beta_fewer count (lambdas h) h (map (tree_at c) args) (e ∙ ap (min (lambdas h)) (sym (length-map args (tree_at c))))
