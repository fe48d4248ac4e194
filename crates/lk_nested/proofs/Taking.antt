-- A tree that was left holds nothing new, once those that were gathered are met.
use Rattle.std.proofs.Common.{◌≡◌, ◌<◌, ℕ, true, List, length, map, sym, ap, ◌∙◌}
use Rattle.std.specs.Prelude.{slice_index_or}
use Rattle.lk_tree.specs.Tree.{Name, Tree}
use Rattle.lk_rulebook.specs.Place.{Place}
use Rattle.lk_store.specs.Contents.{Contents, tree_at}
use Rattle.lk_mentions.specs.declared.part.Met.{Met}
use Rattle.lk_nested.specs.Outermost.{are_among, AreGathered}
use Rattle.lk_nested.specs.Unmet.{nothing, first_unmet}

pub gathered_none : (w : Place) (ns : List Name) (c : Contents) (os : List ℕ) (done_ : List Met) (e i : ℕ) → AreGathered w ns c os done_ → i < length done_ → ((d : Met) → (slice_index_or done_ i d).tree ≡ e)
    → (met : List Tree) → are_among (map (tree_at c) os) met ≡ true → first_unmet w ns met (tree_at c e) ≡ nothing
gathered_none w ns c os done_ e i known l is met among = let d : Met = record { tree = e } in sym (ap (λ x. first_unmet w ns met (tree_at c x)) (is d)) ∙ known i d l met among
