-- A tree that was walked holds no nested occurrence.
use Rattle.std.proofs.Common.{◌≡◌, ℕ, ◌<◌, false, List, length, ap, sym, ◌∙◌}
use Rattle.std.specs.Prelude.{slice_index_or}
use Rattle.lk_tree.specs.Tree.{Name}
use Rattle.lk_rulebook.specs.Place.{Place}
use Rattle.lk_store.specs.Contents.{Contents, tree_at}
use Rattle.lk_mentions.specs.declared.part.Met.{Met}
use Rattle.lk_nested.specs.Findings.{found}
use Rattle.lk_nested.specs.Nestings.{nested_in, AreFlat}

pub tree_flat : (w : Place) (ns : List Name) (c : Contents) (e : ℕ) (met : List Met) (i : ℕ) → AreFlat w ns c met → i < length met → ((d : Met) → (slice_index_or met i d).tree ≡ e) → nested_in w ns (tree_at c e) ≡ found false
tree_flat w ns c e met i flat l is = let d : Met = record { tree = e } in sym (ap (λ x. nested_in w ns (tree_at c x)) (is d)) ∙ flat i d l
