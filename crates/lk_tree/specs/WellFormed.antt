-- Closed and well scoped trees, and the Locals of a tree.
use Rattle.std.specs.Prelude.{ℕ, suc, ◌≡◌, ◌<◌, ◌≤◌, ◌^◌, ◌⊎◌, List, [], ◌∷◌}
use Rattle.lk_tree.specs.Tree.{Tree, var, sort, const, app, lam, pi, let_in, proj, lit, wide, str, local}
use Rattle.lk_tree.specs.Bind.{bound}

-- under d binders: no variable is loose and no literal is `wide` or above 2^128 - 1, in the tree or in the types of its Locals,
-- and the type inside Local(k, T) holds only Locals below k
abbrev pub IsWellFormedUnder : ℕ → Tree → Type 0
IsWellFormedUnder d (var i) = i < d
IsWellFormedUnder d (sort l) = Unit {0}
IsWellFormedUnder d (const c ls) = Unit {0}
IsWellFormedUnder d (app f a) = IsWellFormedUnder d f × IsWellFormedUnder d a
IsWellFormedUnder d (lam A b) = IsWellFormedUnder d A × IsWellFormedUnder (suc d) b
IsWellFormedUnder d (pi A B) = IsWellFormedUnder d A × IsWellFormedUnder (suc d) B
IsWellFormedUnder d (let_in A a b) = IsWellFormedUnder d A × IsWellFormedUnder d a × IsWellFormedUnder (suc d) b
IsWellFormedUnder d (proj S i s) = IsWellFormedUnder d s
IsWellFormedUnder d (lit n) = n < 2 ^ 128
IsWellFormedUnder d wide = ⊥
IsWellFormedUnder d (str s) = Unit {0}
IsWellFormedUnder d (local k T) = IsWellFormedUnder 0 T × (bound T ≤ k)

-- closed and well scoped
abbrev pub IsWellFormed : Tree → Type 0
IsWellFormed e = IsWellFormedUnder 0 e

-- closed, and holds no Local
abbrev pub IsStated : Tree → Type 0
IsStated e = IsWellFormed e × (bound e ≡ 0)

-- Local(k, T) occurs in the tree, or in the type of a Local of it
abbrev pub HasLocal : ℕ → Tree → Tree → Type 0
HasLocal k T (var i) = ⊥
HasLocal k T (sort l) = ⊥
HasLocal k T (const c ls) = ⊥
HasLocal k T (app f a) = HasLocal k T f ⊎ HasLocal k T a
HasLocal k T (lam A b) = HasLocal k T A ⊎ HasLocal k T b
HasLocal k T (pi A B) = HasLocal k T A ⊎ HasLocal k T B
HasLocal k T (let_in A a b) = HasLocal k T A ⊎ (HasLocal k T a ⊎ HasLocal k T b)
HasLocal k T (proj S i s) = HasLocal k T s
HasLocal k T (lit n) = ⊥
HasLocal k T wide = ⊥
HasLocal k T (str s) = ⊥
HasLocal k T (local j S) = ((k ≡ j) × (T ≡ S)) ⊎ HasLocal k T S

-- each Local of v is one of e
abbrev pub LocalsWithin : Tree → Tree → Type 0
LocalsWithin e v = (k : ℕ) (T : Tree) → HasLocal k T v → HasLocal k T e

abbrev pub AllWellFormed : List Tree → Type 0
AllWellFormed [] = Unit {0}
AllWellFormed (a ∷ rest) = IsWellFormed a × AllWellFormed rest
