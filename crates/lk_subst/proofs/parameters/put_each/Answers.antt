use Rattle.std.proofs.Common.{rules, ◌≡◌, ◌∙◌, ◌<◌, ◌++◌, ◌∷◌, [], ℕ, length, ap}
use Rattle.std.specs.Prelude.{Some}
use Rattle.std.proofs.lemmas.List.Elements.{All-pop}
use Rattle.lk_tree.specs.Tree.{Level}
use Rattle.lk_store.specs.Contents.{level_at}
use Rattle.lk_store.proofs.Extending.{Extends-trans}
use Rattle.lk_subst.specs.Parameters.{putting}
use Rattle.lk_subst.proofs.LevelValues.{putting-steady, put_more}
use Rattle.lk_subst.proofs.parameters.put_each.Goals as goal

pub up-preserved : goal.up-preserved
up-preserved g c =
    let c0 = g.T.Terms.contents c.args.terms.now in
    let c1 = g.T.Terms.contents c.up.terms in
    let c2 = g.T.Terms.contents c.put_in_level.new.terms in
    let c3 = g.T.Terms.contents c.make_levels.new.self in
    let was = c.up.invariant in
    let x = c.in_ok-r.ensures.keeps in
    let y = c.in_ok-at.ensures.keeps in
    let f = putting c0 c.args.params.now c.args.values.now in
    let steady : putting c1 c.args.params.now c.args.values.now ≡ f = putting-steady c0 c1 was.grown c.args.params.now c.args.values.now c.requires.params_in c.requires.values_in in
    let popped : c.up.found.items ≡ c.pop.new.self.items ++ c.in-Some.level ∷ [] = search rules in
    let known = All-pop (λ (l : ℕ). l < length c0.levels) c.up.found.items c.pop.new.self.items (Some c.in-Some.level) popped was.found_known in
    let one = c.in_ok-r.ensures.ok in
    let is : level_at c2 c.in_ok-r.r ≡ f (level_at c0 c.in-Some.level) =
    one.is ∙ ap (λ (h : Level → Level). h (level_at c1 c.in-Some.level)) steady ∙ ap f (was.grown.levels.same c.in-Some.level known.1) in
    let made = c.in_ok-at.ensures.ok in
    record {
      grown = Extends-trans c0 c2 c3 (Extends-trans c0 c1 c2 was.grown x) y;
      rest = search rules;
      known = made.known;
      found_known = known.0;
      all = put_more f c0 c1 c2 c3 c.up.found.items c.pop.new.self.items c.in-Some.level c.up.at c.in_ok-r.r c.in_ok-at.at _ popped was.all is (x.lists.same c.up.at was.known) made.is;
    }
