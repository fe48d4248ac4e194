-- The names of a tree are the name in its node and those of its parts.
use Rattle.std.proofs.Common.{ℕ, ◌≡◌, ◌+◌, inl, inr, Bool, true, false, [], ◌∷◌, refl, sym, subst, arith}
use Rattle.std.specs.Prelude.{◌||◌}
use Rattle.lk_tree.specs.Tree.{Name, name_discrete}
use Rattle.lk_tree.specs.Mentions.{mentions, is_one_of}
use Rattle.lk_reach.proofs.Computed.{one_true, or_left, or_right}
use Rattle.lk_store.specs.Contents.{Contents, name_at, tree_at, tree_of, IsIn}
use Rattle.lk_store.specs.declared.node.Node.{Node}
use Rattle.lk_store.specs.declared.node.Node.TheVariants as node
use Rattle.lk_seek.specs.Costs.{tree_cost}
use Rattle.lk_needs.specs.declared.thing.Thing.TheVariants.{Tree as a_tree}
use Rattle.lk_needs.specs.Things.{node_things}
use Rattle.lk_needs.specs.Leads.{AreNaming, AnyHas, AreBelow, IsTaken}

alone_is : (x n : Name) → is_one_of (x ∷ []) n ≡ true → n ≡ x
alone_is x n h = go (name_discrete x n) h
  where
    go : (d : Dec (x ≡ n)) → elim d as (λ y. Bool) [ yes e ↦ true | no f ↦ false ] ≡ true → n ≡ x
    go (yes e) k = sym e
    go (no f) k = absurd cc

is_alone : (x n : Name) → n ≡ x → is_one_of (x ∷ []) n ≡ true
is_alone x n h = go (name_discrete x n)
  where
    go : (d : Dec (x ≡ n)) → elim d as (λ y. Bool) [ yes e ↦ true | no f ↦ false ] ≡ true
    go (yes e) = refl
    go (no f) = absurd (f (sym h))

module _ (c : Contents) where
  naming : (d : Node) → IsIn c d → AreNaming c (node_things d)
  naming (node.Var i) h = tt
  naming (node.Sort l) h = tt
  naming (node.Const n ls) h = (h.0, tt)
  naming (node.App f a) h = (h.0, (h.1, tt))
  naming (node.Lam A b) h = (h.0, (h.1, tt))
  naming (node.Pi A B) h = (h.0, (h.1, tt))
  naming (node.Let A v b) h = (h.0, (h.1, (h.2, tt)))
  naming (node.Proj S i s) h = (h.0, (h.1, tt))
  naming (node.Lit n) h = tt
  naming node.Wide h = tt
  naming (node.Str s) h = tt
  naming (node.Local k T) h = tt

  below : (d : Node) → AreBelow c (2 + tree_cost (tree_of c d)) (node_things d)
  below (node.Var i) = tt
  below (node.Sort l) = tt
  below (node.Const n ls) = (omega arith, tt)
  below (node.App f a) = (omega arith, (omega arith, tt))
  below (node.Lam A b) = (omega arith, (omega arith, tt))
  below (node.Pi A B) = (omega arith, (omega arith, tt))
  below (node.Let A v b) = (omega arith, (omega arith, (omega arith, tt)))
  below (node.Proj S i s) = (omega arith, (omega arith, tt))
  below (node.Lit n) = tt
  below node.Wide = tt
  below (node.Str s) = tt
  below (node.Local k T) = tt

  module _ (x : Name) where
    abbrev has : ℕ → Bool
    has e = mentions (x ∷ []) (tree_at c e)

    of_two : (a b : ℕ) → (has a || has b) ≡ true → AnyHas c x (a_tree a ∷ a_tree b ∷ [])
    of_two a b h = elim (one_true (has a) (has b) h) [ inl k ↦ inl k | inr k ↦ inr (inl k) ]

    two_of : (a b : ℕ) → AnyHas c x (a_tree a ∷ a_tree b ∷ []) → (has a || has b) ≡ true
    two_of a b (inl h) = or_left (has a) (has b) h
    two_of a b (inr (inl h)) = or_right (has a) (has b) h
    two_of a b (inr (inr h)) = absurd h

    all : (d : Node) → mentions (x ∷ []) (tree_of c d) ≡ true → AnyHas c x (node_things d)
    all (node.Var i) h = absurd cc
    all (node.Sort l) h = absurd cc
    all (node.Const n ls) h = inl (alone_is x (name_at c n) h)
    all (node.App f a) h = of_two f a h
    all (node.Lam A b) h = of_two A b h
    all (node.Pi A B) h = of_two A B h
    all (node.Let A v b) h = elim (one_true (has A) (has v || has b) h) [ inl k ↦ inl k | inr k ↦ inr (of_two v b k) ]
    all (node.Proj S i s) h = elim (one_true (is_one_of (x ∷ []) (name_at c S)) (has s) h) [ inl k ↦ inl (alone_is x (name_at c S) k) | inr k ↦ inr (inl k) ]
    all (node.Lit n) h = absurd cc
    all node.Wide h = absurd cc
    all (node.Str s) h = absurd cc
    all (node.Local k T) h = absurd cc

    only : (d : Node) → AnyHas c x (node_things d) → mentions (x ∷ []) (tree_of c d) ≡ true
    only (node.Var i) h = absurd h
    only (node.Sort l) h = absurd h
    only (node.Const n ls) (inl h) = is_alone x (name_at c n) h
    only (node.Const n ls) (inr h) = absurd h
    only (node.App f a) h = two_of f a h
    only (node.Lam A b) h = two_of A b h
    only (node.Pi A B) h = two_of A B h
    only (node.Let A v b) (inl h) = or_left (has A) (has v || has b) h
    only (node.Let A v b) (inr h) = or_right (has A) (has v || has b) (two_of v b h)
    only (node.Proj S i s) (inl h) = or_left (is_one_of (x ∷ []) (name_at c S)) (has s) (is_alone x (name_at c S) h)
    only (node.Proj S i s) (inr (inl h)) = or_right (is_one_of (x ∷ []) (name_at c S)) (has s) h
    only (node.Proj S i s) (inr (inr h)) = absurd h
    only (node.Lit n) h = absurd h
    only node.Wide h = absurd h
    only (node.Str s) h = absurd h
    only (node.Local k T) h = absurd h

  pub node_taken : (e : ℕ) (d : Node) → IsIn c d → tree_of c d ≡ tree_at c e → IsTaken c (a_tree e) (node_things d)
  node_taken e d inside is = record {
    named = record {
      naming = naming d inside;
      only = λ x h. subst (λ t. mentions (x ∷ []) t ≡ true) is (only x d h);
      all = λ x s h. all x d (subst (λ t. mentions (x ∷ []) t ≡ true) (sym is) h);
    };
    below = subst (λ t. AreBelow c (2 + tree_cost t) (node_things d)) is (below d);
  }
