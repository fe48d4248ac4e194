-- Lets one inside the other.
use Rattle.std.specs.Prelude.{◌≡◌, ◌<◌, ℕ, List, [], ◌∷◌, All, length}
use Rattle.lk_tree.specs.Tree.{Tree, app, let_in}
use Rattle.lk_tree.specs.Bind.{opened}
use Rattle.lk_tree.specs.Loose.{loose}
use Rattle.lk_store.specs.Contents.{Contents, tree_at}

-- the term is a let of this type, value and body
pub record IsLet (c : Contents) (e : ℕ) (parts : ℕ × ℕ × ℕ) : Type 0 where
  pub type_in : parts.0 < length c.trees
  pub value_in : parts.1 < length c.trees
  pub body_in : parts.2 < length c.trees
  pub is : tree_at c e ≡ let_in (tree_at c parts.0) (tree_at c parts.1) (tree_at c parts.2)

-- a let over r, of a type that is applied to a value
abbrev pub let_over : Tree → Tree → Tree
let_over (app A v) r = let_in A v r
let_over _ r = r

-- one let for each of the list, the first one outermost
abbrev pub lets_over : List Tree → Tree → Tree
lets_over [] r = r
lets_over (h ∷ hs) r = let_over h (lets_over hs r)

-- e is r inside lets that are opened with their values; each has the type and the value of its place in the list
abbrev pub PushesTo : Tree → List Tree → Tree → Type 0
PushesTo e [] r = e ≡ r
PushesTo e (h ∷ hs) r =
    (A v b : Tree) × (h ≡ app A v) × (e ≡ let_in A v b) × PushesTo (opened b v) hs r

-- the numbers stand for trees without loose variables
abbrev pub AreClosed : Contents → List ℕ → Type 0
AreClosed c = All (λ x. (x < length c.trees) × (loose (tree_at c x) ≡ 0))
