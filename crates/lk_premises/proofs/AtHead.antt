-- The constant at the head of a tree, and what goes on with what it means.
use Rattle.std.proofs.Common.{◌≡◌, List, Option, Some, None, refl, sym, ap, ◌∙◌}
use Rattle.lk_tree.specs.Tree.{Name, Level, Tree, const}
use Rattle.lk_tree.specs.Spine.{head}
use Rattle.lk_rulebook.specs.Place.{Place, Entry}
use Rattle.lk_questions.specs.Tests.{◌>>=◌}
use Rattle.lk_written.specs.Premises.{as_const}
use Rattle.lk_premises.specs.Heads.{head_means}
use Rattle.lk_premises.proofs.Binding.{bind_bind}

module _ (w : Place) (t : Tree) where
  -- it is this one
  module _ (x : Name) (ls : List Level) (is : const x ls ≡ head t) where
    pub head_given : (g : Entry) → w.means x ≡ Some g → head_means w t ≡ Some ((x, ls), g)
    head_given g m =
        ap (λ y. as_const y >>= λ c. w.means c.0 >>= λ e. Some (c, e)) (sym is)
        ∙ ap (λ o. o >>= λ (e : Entry). Some ((x, ls), e)) m

    pub head_lost : w.means x ≡ None → head_means w t ≡ None
    head_lost m =
        ap (λ y. as_const y >>= λ c. w.means c.0 >>= λ e. Some (c, e)) (sym is)
        ∙ ap (λ o. o >>= λ (e : Entry). Some ((x, ls), e)) m

  module _ {A : Type 0} (k : Name × List Level → Entry → Option A) where
    by_head : (as_const (head t) >>= λ c. w.means c.0 >>= λ g. k c g) ≡ (head_means w t >>= λ h. k h.0 h.1)
    by_head =
        bind_bind (as_const (head t)) (λ c. w.means c.0 >>= λ g. Some (c, g)) (λ h. k h.0 h.1) (λ c. w.means c.0 >>= λ g. k c g)
        (λ c. bind_bind (w.means c.0) (λ g. Some (c, g)) (λ h. k h.0 h.1) (λ g. k c g) (λ g. refl))

    pub head_some : (c : Name × List Level) (g : Entry) → head_means w t ≡ Some (c, g) → (as_const (head t) >>= λ c. w.means c.0 >>= λ g. k c g) ≡ k c g
    head_some c g h = by_head ∙ ap (λ o. o >>= λ h. k h.0 h.1) h

    pub head_none : head_means w t ≡ None → (as_const (head t) >>= λ c. w.means c.0 >>= λ g. k c g) ≡ None
    head_none h = by_head ∙ ap (λ o. o >>= λ h. k h.0 h.1) h
