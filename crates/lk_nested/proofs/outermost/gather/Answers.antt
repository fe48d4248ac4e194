use Rattle.std.proofs.Common.{◌≡◌, true, List, [], ◌∷◌, ◌++◌, map, sym, subst, rules}
use Rattle.lk_tree.specs.Tree.{Tree}
use Rattle.std.proofs.lemmas.List.Elements.{All-same, All-push}
use Rattle.lk_mentions.specs.Names.{names_at}
use Rattle.lk_mentions.specs.declared.part.Met.{Met}
use Rattle.lk_seek.specs.declared.visit.Visit.TheVariants.{Enter, Leave}
use Rattle.lk_store.specs.Contents.{tree_at}
use Rattle.lk_nested.specs.Outermost.{are_among, AreGathered}
use Rattle.lk_nested.specs.Unmet.{nothing, first_unmet}
use Rattle.lk_nested.proofs.Gathering.{entered_known, gathering_ends, left_gathering, left_less, left_done, taken, done_taken, found_taken, taken_less, ended}
use Rattle.lk_nested.proofs.outermost.gather.Goals as goal

pub enter-requires-clause-tree_in : goal.enter-requires-clause-tree_in
enter-requires-clause-tree_in g c =
    let s = g.A.Terms.contents c.args.asks.now in
    let w = (g.A.Asks.standing c.args.asks.now).place in
    entered_known w (names_at s c.args.names.now) s c.args.e (map (tree_at s) c.walk.found.items) c.walk.walk.stack.items c.pop.new.self.items c.in-Enter.part c.walk.invariant.gathers (search rules)

pub walk-smaller-in-Ok : goal.walk-smaller-in-Ok
walk-smaller-in-Ok g c =
    let s = g.A.Terms.contents c.args.asks.now in
    let w = (g.A.Asks.standing c.args.asks.now).place in
    taken_less w (names_at s c.args.names.now) s c.args.e c.walk.found.items c.enter.new.found.items c.walk.walk.stack.items c.pop.new.self.items c.enter.new.walk.stack.items c.in-Enter.part (search rules) c.in-Ok.ensures.taken

pub walk-preserved-in-Ok : goal.walk-preserved-in-Ok
walk-preserved-in-Ok g c =
    let s = g.A.Terms.contents c.args.asks.now in
    let w = (g.A.Asks.standing c.args.asks.now).place in
    let ns = names_at s c.args.names.now in
    let was = c.walk.invariant in
    let os = c.walk.found.items in
    let ps = c.enter.new.found.items in
    let stack = c.walk.walk.stack.items in
    let rest = c.pop.new.self.items in
    let on = c.enter.new.walk.stack.items in
    let p = c.in-Enter.part in
    let popped : stack ≡ rest ++ Enter p ∷ [] = search rules in
    let known = entered_known w ns s c.args.e (map (tree_at s) os) stack rest p was.gathers popped in
    record {
      found_in = found_taken w ns s c.args.e os ps stack rest on p c.in-Ok.ensures.taken known was.found_in;
      done = subst (AreGathered w ns s ps) (sym c.in-Ok.ensures.done) (done_taken w ns s c.args.e os ps stack rest on p c.in-Ok.ensures.taken c.walk.walk.done was.done);
      spines = c.in-Ok.ensures.spines;
      gathers = taken w ns s c.args.e os ps stack rest on p was.gathers popped known c.in-Ok.ensures.taken;
    }

pub returns-in-Err : goal.returns-in-Err
returns-in-Err g c =
    let s = g.A.Terms.contents c.args.asks.now in
    let w = (g.A.Asks.standing c.args.asks.now).place in
    let was = c.walk.invariant in
    ended w (names_at s c.args.names.now) s c.args.e c.walk.found.items c.walk.walk.stack.items c.pop.new.self.items c.in-Enter.part was.gathers (search rules) was.found_in
    c.enter.new.found.items c.in-Err.ensures.taken.0 c.in-Err.stop c.in-Err.ensures.taken.1 c.told.result c.told.ensures

pub walk-smaller : goal.walk-smaller
walk-smaller g c =
    let s = g.A.Terms.contents c.args.asks.now in
    let w = (g.A.Asks.standing c.args.asks.now).place in
    left_less w (names_at s c.args.names.now) s c.args.e (map (tree_at s) c.walk.found.items) c.walk.walk.stack.items c.pop.new.self.items c.in-Leave.part c.walk.invariant.gathers (search rules)

pub walk-preserved : goal.walk-preserved
walk-preserved g c =
    let s = g.A.Terms.contents c.args.asks.now in
    let w = (g.A.Asks.standing c.args.asks.now).place in
    let ns = names_at s c.args.names.now in
    let was = c.walk.invariant in
    let os = c.walk.found.items in
    let stack = c.walk.walk.stack.items in
    let rest = c.pop.new.self.items in
    let p = c.in-Leave.part in
    let popped : stack ≡ rest ++ Leave p ∷ [] = search rules in
    let row : Met = record { tree = p } in
    let IsLeft = λ (m : Met). (met : List Tree) → are_among (map (tree_at s) os) met ≡ true → first_unmet w ns met (tree_at s m.tree) ≡ nothing in
    record {
      found_in = was.found_in;
      done = All-same IsLeft c.push-in-Leave.new.self (c.walk.walk.done ++ row ∷ []) c.in-Ok-push.ensures.ok (All-push IsLeft c.walk.walk.done row was.done (left_done w ns s c.args.e (map (tree_at s) os) stack rest p was.gathers popped));
      spines = was.spines;
      gathers = left_gathering w ns s c.args.e (map (tree_at s) os) stack rest p was.gathers popped;
    }

pub returns : goal.returns
returns g c =
    let s = g.A.Terms.contents c.args.asks.now in
    let w = (g.A.Asks.standing c.args.asks.now).place in
    record {
      found_in = c.walk.invariant.found_in;
      tell = gathering_ends w (names_at s c.args.names.now) s c.args.e (map (tree_at s) c.walk.found.items) c.walk.walk.stack.items c.walk.invariant.gathers (search rules);
    }
