use Rattle.std.proofs.Common.{rules, ◌≡◌, ◌<◌, ◌++◌, ◌∷◌, [], ℕ, length}
use Rattle.std.specs.Prelude.{Some}
use Rattle.std.proofs.lemmas.List.Elements.{All-pop}
use Rattle.lk_store.proofs.Extending.{Extends-trans}
use Rattle.lk_units.proofs.Listing.{list_more}
use Rattle.lk_units.proofs.making.make_list.Goals as goal

pub up-preserved : goal.up-preserved
up-preserved g c =
    let c0 = g.T.Terms.contents c.args.store.now in
    let c1 = g.T.Terms.contents c.up.store in
    let c2 = g.T.Terms.contents c.make_levels-in-Some.new.self in
    let was = c.up.invariant in
    let popped : c.up.levels.items ≡ c.pop.new.self.items ++ c.in-Some.level ∷ [] = search rules in
    let known = All-pop (λ (l : ℕ). l < length c0.levels) c.up.levels.items c.pop.new.self.items (Some c.in-Some.level) popped was.levels_known in
    let made = c.in_ok-list-2.ensures.ok in
    record {
      grown = Extends-trans c0 c1 c2 was.grown c.in_ok-list-2.ensures.keeps;
      rest = search rules;
      known = made.known;
      levels_known = known.0;
      all = list_more c0 c1 c2 c.up.levels.items c.pop.new.self.items c.in-Some.level c.up.list c.in_ok-list-2.list _ popped was.all (was.grown.levels.same c.in-Some.level known.1) made.is;
    }
