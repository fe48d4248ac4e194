-- A tree that was looked through mentions none of the names.
use Rattle.std.proofs.Common.{◌≡◌, ℕ, ◌<◌, Bool, true, false, List, length, refl, ap, sym, ◌∙◌}
use Rattle.std.specs.Prelude.{not, slice_index_or}
use Rattle.lk_tree.specs.Mentions.{mentions}
use Rattle.lk_store.specs.Contents.{Contents, tree_at}
use Rattle.lk_mentions.specs.declared.part.Met.{Met}
use Rattle.lk_mentions.specs.Names.{names_at}
use Rattle.lk_mentions.specs.Walks.{is_clear, AreClear}

not_true : (b : Bool) → not b ≡ true → b ≡ false
not_true true h = absurd cc
not_true false h = refl

pub tree_met : (c : Contents) (ks : List ℕ) (e : ℕ) (met : List Met) (i : ℕ) → AreClear c ks met → i < length met → ((d : Met) → (slice_index_or met i d).tree ≡ e) → mentions (names_at c ks) (tree_at c e) ≡ false
tree_met c ks e met i clear l is =
    let d : Met = record { tree = e } in
    not_true (mentions (names_at c ks) (tree_at c e)) (sym (ap (is_clear c ks) (is d)) ∙ clear i d l)
