-- Projections, one after another.
use Rattle.std.proofs.Common.{◌≡◌, ◌<◌, ℕ, zero, suc, ◌+◌, List, [], ◌∷◌, ◌++◌, map, length, All, sym, ap, ◌∙◌, arith}
use Rattle.std.proofs.lemmas.List.{map-append}
use Rattle.lk_tree.specs.Tree.{Name, Tree, proj}
use Rattle.lk_rulebook.specs.Structures.{projections}
use Rattle.lk_store.specs.Contents.{Contents, tree_at, Extends}
use Rattle.lk_subst.specs.Numbers.{trees-steady}

-- one more at the end
projections-push : (J : Name) (m : Tree) (j n : ℕ) → projections J m j (suc n) ≡ projections J m j n ++ proj J (j + n) m ∷ []
projections-push J m j zero = ap (λ k. proj J k m ∷ []) (let e : j ≡ j + 0 = omega arith in e)
projections-push J m j (suc n) =
    let e : suc j + n ≡ j + suc n = omega arith in
    ap (λ ps. proj J j m ∷ ps) (projections-push J m (suc j) n)
    ∙ ap (λ k. proj J j m ∷ projections J m (suc j) n ++ proj J k m ∷ []) e

-- the same, by numbers, in a store that has grown
pub projected : {c d : Contents} → Extends c d → (J : Name) (m : Tree) (ps : List ℕ) (p k n : ℕ) → n ≡ k + 1 → All (λ e. e < length c.trees) ps
    → map (tree_at c) ps ≡ projections J m 0 k → tree_at d p ≡ proj J k m → map (tree_at d) (ps ++ p ∷ []) ≡ projections J m 0 n
projected {c} {d} x J m ps p k n next known was is =
    let one : n ≡ suc k = omega arith in
    let zeroed : 0 + k ≡ k = omega arith in
    map-append (tree_at d) ps (p ∷ [])
    ∙ ap (λ ts. ts ++ tree_at d p ∷ []) (trees-steady c d ps x known ∙ was)
    ∙ ap (λ t. projections J m 0 k ++ t ∷ []) is
    ∙ ap (λ i. projections J m 0 k ++ proj J i m ∷ []) (sym zeroed)
    ∙ sym (projections-push J m 0 k)
    ∙ ap (projections J m 0) (sym one)
