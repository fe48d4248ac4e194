use Rattle.std.proofs.Common.{◌∙◌, true, false, sym, rules, ap}
use Rattle.lk_questions.specs.Erased.{a_tree, gives, erased}
use Rattle.lk_store.specs.Store.{contents_of}
use Rattle.lk_store.specs.Contents.{name_at, tree_at}
use Rattle.lk_ask.proofs.Steps.{same_steps, after_look}
use Rattle.lk_quot.specs.Redexes.{at_element, plain_redex}
use Rattle.lk_quot.proofs.Elements.{looked_is}
use Rattle.lk_quot.proofs.core_form.at_constructor.Goals as goal

pub returns-then-is_quotient : goal.returns-then-is_quotient
returns-then-is_quotient g c =
    let look = c.look.ensures in
    let t = g.L.Terms.contents c.args.looks.now in
    let b = (g.L.Looks.sight (g.L.Terms.rest c.args.looks.now)).basis in
    let last = (g.L.Looks.sight (g.L.Terms.rest c.look.new.self)).last in
    let u = c.args.redex.now in
    let h = c.in-Ok.ensures.found in
    let kind = c.is_quotient.ensures (contents_of b.library.tables) b.library.units h.entry h.is in
    same_steps
    (sym (looked_is b.place (tree_at t c.args.e) (plain_redex (tree_at t) u)
    (tree_at t c.args.element) b.library (name_at t c.args.name) _ last c.in-Ok.entry h
    c.requires.name_is true (sym kind ∙ c.if-is_quotient.true)))
    (after_look (λ k d. erased d.place a_tree last (at_element (plain_redex (tree_at k) u)
    (tree_at k c.args.element))) look.contents look.stays c.at_element.ensures)

pub returns-else-is_quotient : goal.returns-else-is_quotient
returns-else-is_quotient g c =
    let look = c.look.ensures in
    let t = g.L.Terms.contents c.args.looks.now in
    let b = (g.L.Looks.sight (g.L.Terms.rest c.args.looks.now)).basis in
    let last = (g.L.Looks.sight (g.L.Terms.rest c.look.new.self)).last in
    let h = c.in-Ok.ensures.found in
    let kind = c.is_quotient.ensures (contents_of b.library.tables) b.library.units h.entry h.is in
    record {
      keeps = search rules;
      stays = search rules;
      known = search rules;
      steps = ap (λ k. gives last (a_tree (tree_at k c.args.e))) look.contents
          ∙ sym (looked_is b.place (tree_at t c.args.e) (plain_redex (tree_at t) c.args.redex.now)
          (tree_at t c.args.element) b.library (name_at t c.args.name) _ last c.in-Ok.entry h
          c.requires.name_is false (sym kind ∙ c.if-is_quotient.false));
    }
