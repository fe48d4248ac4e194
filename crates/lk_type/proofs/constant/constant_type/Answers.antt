use Rattle.std.proofs.Common.{◌≡◌, Some, rules, ap, sym, subst, ◌∙◌}
use Rattle.lk_questions.specs.Erased.{a_tree, gives}
use Rattle.lk_store.specs.Contents.{list_at, tree_at}
use Rattle.lk_store.specs.Store.{contents_of}
use Rattle.lk_env.specs.Entries.{plain_entry}
use Rattle.lk_ask.specs.Looks.{Basis}
use Rattle.lk_type.proofs.Types.{typed_row, counted_row}
use Rattle.lk_type.proofs.constant.constant_type.Goals as goal

pub returns-in-Some : goal.returns-in-Some
returns-in-Some g c =
    let h = c.in-Ok.ensures.found in
    let library = (g.L.Looks.sight (g.L.Terms.rest c.args.looks.now)).basis.library in
    let before = g.L.Terms.contents c.args.looks.now in
    let same = c.look.ensures.over.trees.same c.in-Ok.entry.stated c.in-Ok.ensures.known.stated_in in
    let there = subst (λ (b : Basis _). plain_entry (contents_of b.library.tables) b.library.units c.in-Ok.entry ≡ Some h.entry) (sym c.look.ensures.stays) h.is in
    let at = rw (c.look.ensures.contents, c.in-Some.is) at (c.in_ok-e.ensures.ok h.entry there) in
    record {
      keeps = search rules;
      stays = search rules;
      known = search rules;
      steps = ap (λ r. gives (g.L.Looks.sight r).last (a_tree (tree_at (g.L.Terms.contents c.at_levels.new.self) c.in-Some.e))) c.at_levels.ensures.rest
          ∙ typed_row library _ _ _ _ c.in-Ok.entry h (list_at before c.args.levels) (g.L.Terms.contents c.at_levels.new.self) (tree_at before c.in-Ok.entry.stated) same
          c.in-Some.e at;
    }

pub returns-in-None : goal.returns-in-None
returns-in-None g c =
    let h = c.in-Ok.ensures.found in
    let library = (g.L.Looks.sight (g.L.Terms.rest c.args.looks.now)).basis.library in
    let before = g.L.Terms.contents c.args.looks.now in
    let same = c.look.ensures.over.trees.same c.in-Ok.entry.stated c.in-Ok.ensures.known.stated_in in
    let there = subst (λ (b : Basis _). plain_entry (contents_of b.library.tables) b.library.units c.in-Ok.entry ≡ Some h.entry) (sym c.look.ensures.stays) h.is in
    let at = rw (c.look.ensures.contents, c.in-None.is) at (c.in_ok-e.ensures.ok h.entry there) in
    record {
      keeps = search rules;
      stays = search rules;
      known = search rules;
      steps = counted_row library _ _ _ _ c.in-Ok.entry h (list_at before c.args.levels) (g.L.Terms.contents c.at_levels.new.self) (tree_at before c.in-Ok.entry.stated) same
          at;
    }
