-- Trees that are replaced whole, node by node.
use Rattle.std.proofs.Common.{◌≡◌, ℕ, Bool, true, false, ◌||◌, List, [], ◌∷◌, Option, None, Some, refl, sym, ap, subst, ◌∙◌}
use Rattle.std.specs.Prelude.{option_map, if◌then◌else◌, IsTrue, ◌↔◌}
use Rattle.lk_tree.specs.Tree.{Tree, var, sort, const, app, lam, pi, let_in, proj, lit, wide, str, local, tree_discrete}
use Rattle.lk_rulebook.specs.SameTree.{decided}
use Rattle.lk_inductive.specs.BlockSteps.{is_among}
use Rattle.lk_seek.specs.Trees.{is_empty, parts_back}
use Rattle.lk_store.specs.Contents.{Contents, name_at, tree_at, tree_of}
use Rattle.lk_store.specs.declared.node.Node.{Node}
use Rattle.lk_store.specs.declared.node.Node.TheVariants as node
use Rattle.lk_subst.specs.Walks.{Descends}
use Rattle.lk_nested.specs.Swaps.{instead, or_built, swapped, swapping}
use Rattle.lk_nested.specs.Joined.{occurrences}

module _ (ps : List (Tree × Tree)) where
  pub swapped_to : (t r : Tree) → instead ps t ≡ Some r → swapped ps t ≡ r
  unfolding swapped
  swapped_to (var i) r h = ap (λ o. or_built o (var i)) h
  swapped_to (sort l) r h = ap (λ o. or_built o (sort l)) h
  swapped_to (const c ls) r h = ap (λ o. or_built o (const c ls)) h
  swapped_to (app f a) r h = ap (λ o. or_built o (app (swapped ps f) (swapped ps a))) h
  swapped_to (lam A b) r h = ap (λ o. or_built o (lam (swapped ps A) (swapped ps b))) h
  swapped_to (pi A B) r h = ap (λ o. or_built o (pi (swapped ps A) (swapped ps B))) h
  swapped_to (let_in A v b) r h = ap (λ o. or_built o (let_in (swapped ps A) (swapped ps v) (swapped ps b))) h
  swapped_to (proj S i s) r h = ap (λ o. or_built o (proj S i (swapped ps s))) h
  swapped_to (lit n) r h = ap (λ o. or_built o (lit n)) h
  swapped_to wide r h = ap (λ o. or_built o wide) h
  swapped_to (str s) r h = ap (λ o. or_built o (str s)) h
  swapped_to (local k T) r h = ap (λ o. or_built o (local k T)) h

  module _ (c : Contents) where
    leaf_stays : (n : Node) → is_empty (parts_back n) ≡ true → instead ps (tree_of c n) ≡ None → swapped ps (tree_of c n) ≡ tree_of c n
    unfolding swapped
    leaf_stays (node.Var i) h none = ap (λ o. or_built o (var i)) none
    leaf_stays (node.Sort l) h none = ap (λ o. or_built o (tree_of c (node.Sort l))) none
    leaf_stays (node.Const x ls) h none = ap (λ o. or_built o (tree_of c (node.Const x ls))) none
    leaf_stays (node.App f a) h none = absurd cc
    leaf_stays (node.Lam A b) h none = absurd cc
    leaf_stays (node.Pi A B) h none = absurd cc
    leaf_stays (node.Let A v b) h none = absurd cc
    leaf_stays (node.Proj S i s) h none = absurd cc
    leaf_stays (node.Lit k) h none = ap (λ o. or_built o (lit k)) none
    leaf_stays node.Wide h none = ap (λ o. or_built o wide) none
    leaf_stays (node.Str s) h none = ap (λ o. or_built o (tree_of c (node.Str s))) none
    leaf_stays (node.Local k T) h none = ap (λ o. or_built o (tree_of c (node.Local k T))) none

    inner_descends : (n : Node) (d : ℕ) → is_empty (parts_back n) ≡ false → instead ps (tree_of c n) ≡ None → Descends (swapping ps) d (tree_of c n)
    unfolding swapped
    inner_descends (node.Var i) d h none = absurd cc
    inner_descends (node.Sort l) d h none = absurd cc
    inner_descends (node.Const x ls) d h none = absurd cc
    inner_descends (node.App f a) d h none = ap (λ o. or_built o (app (swapped ps (tree_at c f)) (swapped ps (tree_at c a)))) none
    inner_descends (node.Lam A b) d h none = ap (λ o. or_built o (lam (swapped ps (tree_at c A)) (swapped ps (tree_at c b)))) none
    inner_descends (node.Pi A B) d h none = ap (λ o. or_built o (pi (swapped ps (tree_at c A)) (swapped ps (tree_at c B)))) none
    inner_descends (node.Let A v b) d h none = ap (λ o. or_built o (let_in (swapped ps (tree_at c A)) (swapped ps (tree_at c v)) (swapped ps (tree_at c b)))) none
    inner_descends (node.Proj S i s) d h none = ap (λ o. or_built o (proj (name_at c S) i (swapped ps (tree_at c s)))) none
    inner_descends (node.Lit k) d h none = absurd cc
    inner_descends node.Wide d h none = absurd cc
    inner_descends (node.Str s) d h none = absurd cc
    inner_descends (node.Local k T) d h none = absurd cc

    -- the same of the tree under a number, by its node
    pub leaf_at : (n : Node) (e : ℕ) → tree_of c n ≡ tree_at c e → is_empty (parts_back n) ≡ true → instead ps (tree_at c e) ≡ None → swapped ps (tree_at c e) ≡ tree_at c e
    leaf_at n e is leaf none = subst (λ t. swapped ps t ≡ t) is (leaf_stays n leaf (ap (instead ps) is ∙ none))

    pub inner_at : (n : Node) (e : ℕ) (d : ℕ) → tree_of c n ≡ tree_at c e → is_empty (parts_back n) ≡ false → instead ps (tree_at c e) ≡ None → Descends (swapping ps) d (tree_at c e)
    inner_at n e d is inner none = subst (Descends (swapping ps) d) is (inner_descends n d inner (ap (instead ps) is ∙ none))

-- one pair after another
module _ (p : Tree × Tree) (ps : List (Tree × Tree)) (t : Tree) where
  pub instead_first : (r : Bool) → (IsTrue r ↔ (t ≡ p.0)) → r ≡ true → instead (p ∷ ps) t ≡ Some p.1
  instead_first r h is = go (tree_discrete t p.0)
    where
      go : (d : Dec (t ≡ p.0)) → (if decided d then Some p.1 else instead ps t) ≡ Some p.1
      go (yes e) = refl
      go (no f) = absurd (f (h.0 (subst IsTrue (sym is) refl)))

  pub instead_next : (r : Bool) → (IsTrue r ↔ (t ≡ p.0)) → r ≡ false → instead (p ∷ ps) t ≡ instead ps t
  instead_next r h is = go (tree_discrete t p.0)
    where
      go : (d : Dec (t ≡ p.0)) → (if decided d then Some p.1 else instead ps t) ≡ instead ps t
      go (yes e) = absurd (not_both r is (h.1 e))
        where
          not_both : (b : Bool) → b ≡ false → IsTrue b → ⊥
          not_both b f g = absurd cc
      go (no f) = refl

-- whether a tree is among the first ones of the pairs
pub instead_among : (ps : List (Tree × Tree)) (t r : Tree) → instead ps t ≡ Some r → is_among t (occurrences ps) ≡ true
instead_among [] t r h = absurd cc
instead_among (p ∷ ps) t r h = go (tree_discrete t p.0) (instead_among ps t r) h
  where
    go : (d : Dec (t ≡ p.0)) → (instead ps t ≡ Some r → is_among t (occurrences ps) ≡ true) → (if decided d then Some p.1 else instead ps t) ≡ Some r → (decided d || is_among t (occurrences ps)) ≡ true
    go (yes e) others i = refl
    go (no f) others i = others i

pub instead_none : (ps : List (Tree × Tree)) (t : Tree) → instead ps t ≡ None → is_among t (occurrences ps) ≡ false
instead_none [] t h = refl
instead_none (p ∷ ps) t h = go (tree_discrete t p.0) (instead_none ps t) h
  where
    go : (d : Dec (t ≡ p.0)) → (instead ps t ≡ None → is_among t (occurrences ps) ≡ false) → (if decided d then Some p.1 else instead ps t) ≡ None → (decided d || is_among t (occurrences ps)) ≡ false
    go (yes e) others i = absurd cc
    go (no f) others i = others i

pub no_value : {A B : Type 0} (f : A → B) (o : Option A) → o ≡ None → option_map f o ≡ None
no_value f o h = ap (option_map f) h
