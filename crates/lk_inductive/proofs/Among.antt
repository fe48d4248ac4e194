-- Trees that are looked for in a list, by a test that decides whether two are the same.
use Rattle.std.proofs.Common.{◌≡◌, ◌↔◌, ◌||◌, ℕ, Bool, true, false, IsTrue, List, ◌∷◌, map, refl, sym, ap, ◌∙◌}
use Rattle.lk_tree.specs.Tree.{Tree, tree_discrete}
use Rattle.lk_questions.specs.Steps.{decided, is_same_tree}
use Rattle.lk_inductive.specs.BlockSteps.{is_among}

-- a test of two trees decides as the definition does
pub tree_decides : (r : Bool) (a b : Tree) → (IsTrue r ↔ (a ≡ b)) → r ≡ is_same_tree a b
tree_decides r a b h = go r (tree_discrete a b) h
  where
    go : (s : Bool) (d : Dec (a ≡ b)) → (IsTrue s ↔ (a ≡ b)) → s ≡ decided d
    go true (yes e) i = refl
    go true (no f) i = absurd (f (i.0 refl))
    go false (yes e) i = i.1 e
    go false (no f) i = refl

-- the first one is not what is looked for
module _ (f : ℕ → Tree) (x : Tree) (xs : List ℕ) (y : ℕ) (more : List ℕ) (is : xs ≡ y ∷ more) (r : Bool) (decides : IsTrue r ↔ (x ≡ f y)) where
  pub among_later : r ≡ false → is_among x (map f xs) ≡ is_among x (map f more)
  among_later h = rw is (ap (λ b. b || is_among x (map f more)) (sym (tree_decides r x (f y) decides) ∙ h))
