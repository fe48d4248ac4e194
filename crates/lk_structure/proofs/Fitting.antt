-- Whether a structure fits is told by numbers.
use Rattle.std.proofs.Common.{◌≡◌, ◌+◌, ℕ, Bool, ◌&&◌, List, length, map, nat_eq, ap, sym, ◌∙◌}
use Rattle.std.specs.Prelude.{nat_lt}
use Rattle.std.proofs.lemmas.List.{length-map}
use Rattle.lk_tree.specs.Tree.{Tree}
use Rattle.lk_store.specs.Contents.{Contents, tree_at}
use Rattle.lk_spine.specs.Reading.{AreTrees}

pub fits_is : (c : Contents) (es : List ℕ) (ts : List Tree) (n i p p2 q q2 f f2 : ℕ) (b r : Bool)
    → AreTrees c es ts → n ≡ length es → p ≡ p2 → q ≡ q2 → f ≡ f2
    → b ≡ (nat_eq n (p + q) && nat_lt i f) → b ≡ r
    → (nat_eq (length ts) (p2 + q2) && nat_lt i f2) ≡ r
fits_is c es ts n i p p2 q q2 f f2 b r are long ps qs fs is told =
    let count : n ≡ length ts = long ∙ sym (length-map es (tree_at c)) ∙ ap length are.are in
    rw (← count, ← ps, ← qs, ← fs) (sym is ∙ told)
