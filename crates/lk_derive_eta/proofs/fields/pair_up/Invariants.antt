use Rattle.std.proofs.Common.{◌≡◌, ◌<◌, ◌++◌, length, map, All}
use Rattle.lk_rulebook.specs.Structures.{projections}
use Rattle.lk_store.specs.Contents.{name_at, tree_at, Extends}
use Rattle.lk_ask.specs.Sheets.{map_pair, IsKnownPair}
use Rattle.lk_ask.specs.Lines.{lefts, rights}
use Rattle.lk_derive_eta.proofs.fields.pair_up.Given as goal

abbrev pub invariant-fields : goal.invariant-fields
invariant-fields g l =
    let before = g.T.Terms.contents l.fn.terms in
    let now = g.T.Terms.contents l.terms in
    record {
      keeps : Extends before now;
      same_rest : g.T.Terms.rest l.terms ≡ g.T.Terms.rest l.fn.terms;
      left_in : All (λ e. e < length before.trees) l.left;
      pairs_in : All (IsKnownPair (length now.trees)) l.items.items;
      lefts_are : lefts (map (map_pair (tree_at now)) l.items.items) ≡ projections (name_at before l.fn.inductive) (tree_at before l.fn.a) (length l.left) (length l.items.items);
      rights_are : map (tree_at before) l.left ++ rights (map (map_pair (tree_at now)) l.items.items) ≡ map (tree_at before) l.fn.fields;
    }

abbrev pub decreases-fields : goal.decreases-fields
decreases-fields g l = length l.left
