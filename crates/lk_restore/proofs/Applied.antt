-- A constant applied to terms, taken apart again.
use Rattle.std.proofs.Common.{◌≡◌, List, [], ◌∷◌, refl, sym, ap, ◌∙◌}
use Rattle.lk_tree.specs.Tree.{Name, Level, Tree, const, app}
use Rattle.lk_tree.specs.Spine.{apply, args}
use Rattle.lk_inductive.specs.Restore.{Original, applied_to}
use Rattle.lk_restore.specs.Originals.{head_levels}
use Rattle.lk_restore.proofs.Spines.{args_are}

abbrev stands : Name → Original → Name × Original
stands n o = (n, o)

levels_are : (h : Tree) (xs : List Tree) → head_levels (apply h xs) ≡ head_levels h
levels_are h [] = refl
levels_are h (x ∷ xs) = levels_are (app h x) xs

module _ (J K : Name) (ls : List Level) (bs : List Tree) (t : Tree) (named : J ≡ K) (is : t ≡ apply (const K ls) bs) where
  pub original_is : (n m : Name) → n ≡ m → stands n (applied_to J (head_levels t) (args t)) ≡ stands m (applied_to K ls bs)
  original_is n m e =
      ap (λ x. stands x (applied_to J (head_levels t) (args t))) e
      ∙ ap (λ x. stands m (applied_to x (head_levels t) (args t))) named
      ∙ ap (λ u. stands m (applied_to K (head_levels u) (args u))) is
      ∙ ap (λ ks. stands m (applied_to K ks (args (apply (const K ls) bs)))) (levels_are (const K ls) bs)
      ∙ ap (λ xs. stands m (applied_to K ls xs)) (args_are K ls bs)

  pub applied_is : t ≡ apply (const J (head_levels t)) (args t)
  applied_is =
      is
      ∙ sym (ap (λ x. apply (const x (head_levels t)) (args t)) named
      ∙ ap (λ u. apply (const K (head_levels u)) (args u)) is
      ∙ ap (λ ks. apply (const K ks) (args (apply (const K ls) bs))) (levels_are (const K ls) bs)
      ∙ ap (apply (const K ls)) (args_are K ls bs))
