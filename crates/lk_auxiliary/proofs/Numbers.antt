-- Auxiliary types by number, and types counted, one after another.
use Rattle.std.proofs.Common.{◌≡◌, ℕ, suc, Bool, true, false, List, ◌∷◌, Some, sym, ap, ◌∙◌}
use Rattle.std.specs.Prelude.{if◌then◌else◌, IsTrue, ◌↔◌}
use Rattle.lk_tree.specs.Tree.{Name, Level, Tree, const}
use Rattle.lk_tree.specs.Spine.{apply}
use Rattle.lk_tree.specs.Mentions.{same_name}
use Rattle.lk_rulebook.specs.Place.{BlockType}
use Rattle.lk_rulebook.specs.SameTree.{is_same_tree}
use Rattle.lk_inductive.specs.Enlarged.{Aux}
use Rattle.lk_inductive.specs.Nested.{same_aux, aux_at, other_count}
use Rattle.lk_inductive.proofs.Among.{tree_decides}

module _ (J : Name) (ls : List Level) (bs : List Tree) (a : Aux) (t u : Tree) (t_is : t ≡ apply (const J ls) bs) (u_is : u ≡ apply (const a.name a.levels) a.args) (r : Bool) (test : IsTrue r ↔ (t ≡ u)) where
  same_is : same_aux J ls bs a ≡ r
  same_is = sym (tree_decides r t u test ∙ ap (λ x. is_same_tree x u) t_is ∙ ap (is_same_tree (apply (const J ls) bs)) u_is)

  pub number_first : (i : ℕ) (as_ more : List Aux) → as_ ≡ a ∷ more → r ≡ true → aux_at i as_ J ls bs ≡ Some i
  number_first i as_ more split is = ap (λ x. aux_at i x J ls bs) split ∙ ap (λ b. if b then Some i else aux_at (suc i) more J ls bs) (same_is ∙ is)

  pub number_next : (i j : ℕ) (as_ more : List Aux) → as_ ≡ a ∷ more → j ≡ suc i → r ≡ false → aux_at i as_ J ls bs ≡ aux_at j more J ls bs
  number_next i j as_ more split next is =
      ap (λ x. aux_at i x J ls bs) split ∙ ap (λ b. if b then Some i else aux_at (suc i) more J ls bs) (same_is ∙ is) ∙ ap (λ k. aux_at k more J ls bs) (sym next)

module _ (J : Name) (t : BlockType) (ts more : List BlockType) (split : ts ≡ t ∷ more) where
  pub count_same : same_name J t.name ≡ true → other_count J ts ≡ other_count J more
  count_same h = ap (other_count J) split ∙ ap (λ (b : Bool). if b then other_count J more else suc (other_count J more)) h

  pub count_other : same_name J t.name ≡ false → other_count J ts ≡ suc (other_count J more)
  count_other h = ap (other_count J) split ∙ ap (λ (b : Bool). if b then other_count J more else suc (other_count J more)) h
