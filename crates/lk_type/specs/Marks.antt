-- In which bodies of a telescope the variables of its binders occur.
use Rattle.std.specs.Prelude.{◌≡◌, ◌<◌, ◌≤◌, ◌+◌, ◌-◌, ◌⊎◌, ◌∷◌, ◌++◌, [], ℕ, zero, suc, Bool, true}
use Rattle.std.specs.Prelude.{List, All, Option, Some, slice_index_or, length}
use Rattle.lk_tree.specs.Tree.{Tree, lam, pi}
use Rattle.lk_tree.specs.Bind.{has_var}
use Rattle.lk_tree.specs.Loose.{loose}
use Rattle.lk_store.specs.Contents.{Contents, tree_at}
use Rattle.lk_type.specs.declared.sheet.Binders.{Binders}
use Rattle.lk_type.specs.declared.sheet.Binders.TheVariants.{Pis, Lambdas}
use Rattle.lk_type.specs.declared.marking.Subterm.{Subterm}

-- the body of a binder
abbrev pub body_of : Binders → Tree → Tree
body_of Pis (pi A B) = B
body_of Lambdas (lam A B) = B
body_of b e = e

-- what stands inside so many binders
abbrev pub body_at : Binders → ℕ → Tree → Tree
body_at b zero e = e
body_at b (suc n) e = body_of b (body_at b n e)

-- the variable of the binder inside n others occurs in each body from its own to that inside m
abbrev pub IsMentioned : Binders → Tree → ℕ → ℕ → Type 0
IsMentioned b e n m = (k : ℕ) → n + k < m → has_var k (body_at b (suc (n + k)) e) ≡ true

abbrev pub AreMarks : Binders → Tree → List ℕ → Type 0
AreMarks b e marks = (n : ℕ) → IsMentioned b e n (slice_index_or marks n 0)

-- each binder is marked whose variable occurs
abbrev pub AreAll : Binders → Tree → List ℕ → Type 0
AreAll b e marks =
    (n : ℕ) → n < length marks → has_var 0 (body_at b (suc n) e) ≡ true
    → 0 < slice_index_or marks n 0

-- what is loose in a subterm, and bound by a binder of the telescope, occurs in the bodies around
pub record IsSubterm (c : Contents) (b : Binders) (e : Tree) (p : Subterm) : Type 0 where
  pub known : p.e < length c.trees
  pub within : p.count ≤ p.depth
  pub occurs : (v : ℕ) → v < p.depth → p.depth ≤ v + p.count → has_var v (tree_at c p.e) ≡ true
      → IsMentioned b e (p.depth - 1 - v) p.count

abbrev pub AreSubterms : Contents → Binders → Tree → List Subterm → Type 0
AreSubterms c b e = All (IsSubterm c b e)

-- the variable of the binder inside n others occurs in the subterm
pub record Mentions (c : Contents) (n : ℕ) (p : Subterm) : Type 0 where
  pub index : ℕ
  pub among : n < p.count
  pub at : p.depth ≡ suc (n + index)
  pub occurs : has_var index (tree_at c p.e) ≡ true

-- it is the outermost that is loose there
pub record IsOutermost (c : Contents) (n : ℕ) (p : Subterm) : Type 0 where
  pub among : n < p.count
  pub some : 0 < loose (tree_at c p.e)
  pub at : p.depth ≡ n + loose (tree_at c p.e)

-- it occurs in one of the subterms
abbrev pub IsLeft : Contents → List Subterm → ℕ → Type 0
IsLeft c [] n = ⊥
IsLeft c (p ∷ ps) n = Mentions c n p ⊎ IsLeft c ps n

-- after a subterm: what was left is left, or is the outermost variable of the subterm
abbrev pub Leaves : Contents → Subterm → List Subterm → List Subterm → Type 0
Leaves c p old new = (n : ℕ) → IsLeft c (old ++ p ∷ []) n → IsLeft c new n ⊎ IsOutermost c n p

-- each binder is marked whose variable occurs, or it occurs in a subterm that is left
abbrev pub AreFound : Contents → Binders → Tree → List ℕ → List Subterm → Type 0
AreFound c b e marks subterms =
    (n : ℕ) → n < length marks → has_var 0 (body_at b (suc n) e) ≡ true
    → (0 < slice_index_or marks n 0) ⊎ IsLeft c subterms n

-- one mark is raised to a count, if it was lower
pub record Raises (n count : ℕ) (old new : List ℕ) : Type 0 where
  pub same : length new ≡ length old
  pub grown : (k : ℕ) → slice_index_or old k 0 ≤ slice_index_or new k 0
  pub at : n < length old → count ≤ slice_index_or new n 0
  pub either : (k : ℕ) → (slice_index_or new k 0 ≡ slice_index_or old k 0)
      ⊎ ((k ≡ n) × (slice_index_or new k 0 ≡ count))

-- the outermost variable of a subterm is marked
pub record IsMarked (c : Contents) (b : Binders) (e : Tree) (p : Subterm) (old new : List ℕ) : Type 0
  where
    pub marks : AreMarks b e new
    pub same : length new ≡ length old
    pub grown : (k : ℕ) → slice_index_or old k 0 ≤ slice_index_or new k 0
    pub at : (n : ℕ) → n < length old → IsOutermost c n p → 0 < slice_index_or new n 0

-- how the number of the next Local is found, and the binder of the greatest that occurs
pub data Follows (number count : ℕ) (marks : List ℕ) (all : Bool) (top : Option ℕ)
    (p : ℕ × ℕ) : Type 0 where
  last : count ≤ slice_index_or marks (count - 1) 0 → p.0 ≡ suc number → p.1 ≡ count - 1
      → Follows number count marks all top p
  before : (j : ℕ) → all ≡ true → slice_index_or marks (count - 1) 0 ≡ 0 → count ≤ length marks
      → top ≡ Some j → count ≤ slice_index_or marks j 0 → p.0 ≡ number → p.1 ≡ j
      → Follows number count marks all top p
