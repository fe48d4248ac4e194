use Rattle.std.proofs.Common.{◌≡◌, ◌<◌, length}
use Rattle.lk_rulebook.specs.Literals.{char_list}
use Rattle.lk_store.specs.Contents.{tree_at, Extends}
use Rattle.lk_lit.proofs.CharLists.{all_prepended}
use Rattle.lk_lit.proofs.characters.list_of.Given as goal

abbrev pub invariant-characters : goal.invariant-characters
invariant-characters g l =
    let c = g.T.Terms.contents l.terms in
    record {
      keeps : Extends (g.T.Terms.contents l.fn.terms) c;
      stays : g.T.Terms.rest l.terms ≡ g.T.Terms.rest l.fn.terms;
      list_in : l.list < length c.trees;
      made : all_prepended l.rest.items (tree_at c l.list) ≡ char_list l.fn.characters.items;
    }

abbrev pub decreases-characters : goal.decreases-characters
decreases-characters g l = length l.rest.items
