-- What function eta asks, of the other tree as a lambda.
use Rattle.std.proofs.Common.{◌≡◌, ◌<◌, ℕ, Option, None, length, ap, ◌∙◌}
use Rattle.lk_tree.specs.Tree.{Tree, pi}
use Rattle.lk_rulebook.specs.Place.{Place}
use Rattle.lk_questions.specs.Query.{same}
use Rattle.lk_questions.specs.Program.{done}
use Rattle.lk_questions.specs.Erased.{truth, Steps, asks, with_truth, erased}
use Rattle.lk_questions.specs.Pairs.{yes_alone, ◌or_else◌}
use Rattle.lk_questions.specs.Same.{eta_long, eta_first, eta_second}
use Rattle.lk_store.specs.Contents.{Contents, tree_at, Extends, IsTree}
use Rattle.lk_ask.specs.Lines.{Rest}
use Rattle.lk_eta.specs.Etas.{then_structure}

module _ (p : Rest) (w : Place) (last : Option ℕ) where
  -- two trees are asked for, and where they are not the same what stands behind function eta of a and b
  abbrev asked_same : Tree → Tree → Tree → Tree → Steps
  asked_same l r a b = asks last (same l r) (with_truth (λ equal. erased w truth None (done (yes_alone equal) or_else then_structure p a b)))

  module _ {c d : Contents} (x : Extends c d) (a b domain e : ℕ) (a_in : a < length c.trees) (b_in : b < length c.trees) (B form : Tree) (is : pi (tree_at c domain) B ≡ form) where
    pub first_asks : IsTree d e (eta_long (tree_at c domain) (tree_at c a))
        → asked_same (tree_at d e) (tree_at d b) (tree_at d a) (tree_at d b) ≡ erased w truth last (eta_first (tree_at c a) (tree_at c b) form or_else then_structure p (tree_at c a) (tree_at c b))
    first_asks made =
        ap (λ l. asked_same l (tree_at d b) (tree_at d a) (tree_at d b)) made.is
        ∙ ap (λ y. asked_same (eta_long (tree_at c domain) (tree_at c a)) y (tree_at d a) y) (x.trees.same b b_in)
        ∙ ap (λ y. asked_same (eta_long (tree_at c domain) (tree_at c a)) (tree_at c b) y (tree_at c b)) (x.trees.same a a_in)
        ∙ ap (λ P. erased w truth last (eta_first (tree_at c a) (tree_at c b) P or_else then_structure p (tree_at c a) (tree_at c b))) is

    pub second_asks : IsTree d e (eta_long (tree_at c domain) (tree_at c b))
        → asked_same (tree_at d a) (tree_at d e) (tree_at d a) (tree_at d b) ≡ erased w truth last (eta_second (tree_at c b) (tree_at c a) form or_else then_structure p (tree_at c a) (tree_at c b))
    second_asks made =
        ap (λ l. asked_same (tree_at d a) l (tree_at d a) (tree_at d b)) made.is
        ∙ ap (λ y. asked_same y (eta_long (tree_at c domain) (tree_at c b)) y (tree_at d b)) (x.trees.same a a_in)
        ∙ ap (λ y. asked_same (tree_at c a) (eta_long (tree_at c domain) (tree_at c b)) (tree_at c a) y) (x.trees.same b b_in)
        ∙ ap (λ P. erased w truth last (eta_second (tree_at c b) (tree_at c a) P or_else then_structure p (tree_at c a) (tree_at c b))) is
