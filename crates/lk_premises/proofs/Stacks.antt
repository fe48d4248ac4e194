-- Arguments as a stack.
use Rattle.std.proofs.Common.{◌≡◌, ℕ, ◌<◌, List, [], ◌∷◌, ◌++◌, length, map, refl, sym, ap, ◌∙◌}
use Rattle.std.specs.Prelude.{All, reverse}
use Rattle.std.proofs.lemmas.List.{map-append, reverse-append}
use Rattle.std.proofs.lemmas.List.Elements.{All-head, All-tail}
use Rattle.lk_store.specs.Contents.{Contents, tree_at, Extends}
use Rattle.lk_premises.specs.Spines.{stack_at}

-- the top is taken
pub stack_popped : (c : Contents) (xs ys : List ℕ) (x : ℕ) → xs ≡ ys ++ x ∷ [] → stack_at c xs ≡ tree_at c x ∷ stack_at c ys
stack_popped c xs ys x e = ap (λ zs. map (tree_at c) (reverse zs)) e ∙ ap (map (tree_at c)) (reverse-append ys (x ∷ []))

-- the bottom is put below
stack_below : (c : Contents) (x : ℕ) (xs : List ℕ) → stack_at c (x ∷ xs) ≡ stack_at c xs ++ tree_at c x ∷ []
stack_below c x xs =
    let one : reverse (x ∷ xs) ≡ reverse xs ++ x ∷ [] = reverse-append (x ∷ []) xs in
    rw (one, map-append) refl

pub stack_same : (c d : Contents) (es : List ℕ) → Extends c d → All (λ e. e < length c.trees) es → stack_at d es ≡ stack_at c es
stack_same c d [] x h = refl
stack_same c d (e ∷ es) x h =
    stack_below d e es
    ∙ ap (λ zs. zs ++ tree_at d e ∷ []) (stack_same c d es x (All-tail (λ (y : ℕ). y < length c.trees) e es h))
    ∙ ap (λ t. stack_at c es ++ t ∷ []) (x.trees.same e (All-head (λ (y : ℕ). y < length c.trees) e es h))
    ∙ sym (stack_below c e es)
