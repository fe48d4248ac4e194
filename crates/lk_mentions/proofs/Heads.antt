-- Fields behind the Pi at the head of a tree.
use Rattle.std.proofs.Common.{◌≡◌, ℕ, ◌+◌, Bool, true, false, ◌&&◌, List, suc, refl, ap, sym, ◌∙◌, subst, arith}
use Rattle.std.specs.Prelude.{Option, not}
use Rattle.lk_tree.specs.Tree.{Name, Tree, var, sort, const, app, lam, pi, let_in, proj, lit, wide, str, local}
use Rattle.lk_tree.specs.Mentions.{mentions}
use Rattle.lk_rulebook.specs.Structures.{has_plain_fields, has_plain_fields_after}
use Rattle.lk_store.specs.Contents.{Contents, tree_at, tree_of, IsIn}
use Rattle.lk_store.specs.declared.node.Node.{Node}
use Rattle.lk_store.specs.declared.node.Node.TheVariants as node
use Rattle.lk_mentions.specs.declared.pis.Pi.{Pi}
use Rattle.lk_mentions.specs.Pis.{pi_of, is_pi, IsPi, IsHeadPi}

pub node_pi : (c : Contents) (e : ℕ) (n : Node) (o : Option Pi) → IsIn c n → tree_of c n ≡ tree_at c e → o ≡ pi_of n → IsHeadPi c e o
node_pi c e n o h is found = subst (IsHeadPi c e) (sym found) (go n h is)
  where
    go : (n : Node) → IsIn c n → tree_of c n ≡ tree_at c e → IsHeadPi c e (pi_of n)
    go (node.Var i) h is = ap is_pi (sym is)
    go (node.Sort l) h is = ap is_pi (sym is)
    go (node.Const n ls) h is = ap is_pi (sym is)
    go (node.App f a) h is = ap is_pi (sym is)
    go (node.Lam A b) h is = ap is_pi (sym is)
    go (node.Pi A B) h is = record { domain_known = h.0; body_known = h.1; is = sym is }
    go (node.Let A v b) h is = ap is_pi (sym is)
    go (node.Proj S i s) h is = ap is_pi (sym is)
    go (node.Lit n) h is = ap is_pi (sym is)
    go node.Wide h is = ap is_pi (sym is)
    go (node.Str s) h is = ap is_pi (sym is)
    go (node.Local k T) h is = ap is_pi (sym is)

module _ (ns : List Name) where
  no_fields : (m : ℕ) (t : Tree) → is_pi t ≡ false → has_plain_fields ns (suc m) t ≡ false
  no_fields m (var i) h = refl
  no_fields m (sort l) h = refl
  no_fields m (const n ls) h = refl
  no_fields m (app f a) h = refl
  no_fields m (lam A b) h = refl
  no_fields m (pi A B) h = absurd cc
  no_fields m (let_in A v b) h = refl
  no_fields m (proj S i s) h = refl
  no_fields m (lit n) h = refl
  no_fields m wide h = refl
  no_fields m (str s) h = refl
  no_fields m (local k T) h = refl

  no_parameters : (m n : ℕ) (t : Tree) → is_pi t ≡ false → has_plain_fields_after ns (suc m) n t ≡ false
  no_parameters m n (var i) h = refl
  no_parameters m n (sort l) h = refl
  no_parameters m n (const c ls) h = refl
  no_parameters m n (app f a) h = refl
  no_parameters m n (lam A b) h = refl
  no_parameters m n (pi A B) h = absurd cc
  no_parameters m n (let_in A v b) h = refl
  no_parameters m n (proj S i s) h = refl
  no_parameters m n (lit k) h = refl
  no_parameters m n wide h = refl
  no_parameters m n (str s) h = refl
  no_parameters m n (local k T) h = refl

  -- where a Pi is missing
  fields_missing : (k m : ℕ) (t : Tree) → k ≡ m + 1 → is_pi t ≡ false → has_plain_fields ns k t ≡ false
  fields_missing k m t is h = let e : k ≡ suc m = omega arith in ap (λ x. has_plain_fields ns x t) e ∙ no_fields m t h

  parameters_missing : (k m n : ℕ) (t : Tree) → k ≡ m + 1 → is_pi t ≡ false → has_plain_fields_after ns k n t ≡ false
  parameters_missing k m n t is h = let e : k ≡ suc m = omega arith in ap (λ x. has_plain_fields_after ns x n t) e ∙ no_parameters m n t h

  pub whole_missing : (w : Bool) (k m : ℕ) (t : Tree) → w ≡ has_plain_fields ns k t → k ≡ m + 1 → is_pi t ≡ false → false ≡ w
  whole_missing w k m t same is h = sym (same ∙ fields_missing k m t is h)

  pub whole_missing_after : (w : Bool) (k m n : ℕ) (t : Tree) → w ≡ has_plain_fields_after ns k n t → k ≡ m + 1 → is_pi t ≡ false → w ≡ false
  whole_missing_after w k m n t same is h = same ∙ parameters_missing k m n t is h

  -- the fields are those behind the Pi, and its own
  module _ (c : Contents) (e : ℕ) (p : Pi) (pi_is : IsPi c e p) where
    field_here : (k m : ℕ) → k ≡ m + 1 → has_plain_fields ns k (tree_at c e) ≡ (not (mentions ns (tree_at c p.domain)) && has_plain_fields ns m (tree_at c p.body))
    field_here k m is = let s : k ≡ suc m = omega arith in ap (λ x. has_plain_fields ns x (tree_at c e)) s ∙ ap (has_plain_fields ns (suc m)) pi_is.is

    parameter_here : (k m n : ℕ) → k ≡ m + 1 → has_plain_fields_after ns k n (tree_at c e) ≡ has_plain_fields_after ns m n (tree_at c p.body)
    parameter_here k m n is = let s : k ≡ suc m = omega arith in ap (λ x. has_plain_fields_after ns x n (tree_at c e)) s ∙ ap (has_plain_fields_after ns (suc m) n) pi_is.is

    pub whole_behind : (w : Bool) (k m n : ℕ) → w ≡ has_plain_fields_after ns k n (tree_at c e) → k ≡ m + 1 → w ≡ has_plain_fields_after ns m n (tree_at c p.body)
    whole_behind w k m n same is = same ∙ parameter_here k m n is

    -- r is whether the domain mentions none of the names
    module _ (w : Bool) (k m : ℕ) (r : Bool) (same : w ≡ has_plain_fields ns k (tree_at c e)) (is : k ≡ m + 1) (answer : r ≡ not (mentions ns (tree_at c p.domain))) where
      pub field_mentions : r ≡ false → false ≡ w
      field_mentions h = sym (same ∙ field_here k m is ∙ ap (λ b. b && has_plain_fields ns m (tree_at c p.body)) (sym answer ∙ h))

      pub field_clear : r ≡ true → w ≡ has_plain_fields ns m (tree_at c p.body)
      field_clear h = same ∙ field_here k m is ∙ ap (λ b. b && has_plain_fields ns m (tree_at c p.body)) (sym answer ∙ h)
