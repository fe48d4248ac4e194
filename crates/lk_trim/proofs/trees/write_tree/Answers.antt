use Rattle.std.proofs.Common.{rules, ◌≡◌, ◌∷◌, [], ◌++◌}
use Rattle.lk_store.specs.Contents.{tree_at}
use Rattle.lk_trim.specs.declared.visit.Visit.TheVariants.{Enter, Leave}
use Rattle.lk_trim.specs.Trees.{write_tree}
use Rattle.lk_trim.specs.Stored.{file_at}
use Rattle.lk_trim.specs.Walks.{tree_walk}
use Rattle.lk_trim.proofs.Visits.{enters_in, enters_known, enters_less, enters_leads, leaves_in, leaves_known, leaves_less, leaves_leads}
use Rattle.lk_trim.proofs.trees.write_tree.Goals as goal

pub enter-requires-clause-tree_in : goal.enter-requires-clause-tree_in
enter-requires-clause-tree_in g c =
    enters_in (tree_walk (g.T.Terms.contents c.args.store.now)) c.walk.stack.items c.pop.new.self.items c.in-Enter.e (search rules) c.walk.invariant.known

pub walk-smaller-in-Continue-branch-2 : goal.walk-smaller-in-Continue-branch-2
walk-smaller-in-Continue-branch-2 g c =
    let s = g.T.Terms.contents c.args.store.now in
    enters_less (tree_walk s) c.walk.stack.items c.pop.new.self.items c.in-Enter.e (search rules) c.enter.new.stack.items (file_at s c.walk.writer) (file_at s c.enter.new.writer) c.in_ok-enter-in-Enter.ensures.entered

pub walk-preserved-in-Continue-branch-2 : goal.walk-preserved-in-Continue-branch-2
walk-preserved-in-Continue-branch-2 g c =
    let s = g.T.Terms.contents c.args.store.now in
    let popped : c.walk.stack.items ≡ c.pop.new.self.items ++ Enter c.in-Enter.e ∷ [] = search rules in
    let entered = c.in_ok-enter-in-Enter.ensures.entered in
    record {
      numbers = c.in_ok-enter-in-Enter.ensures.numbers;
      known = enters_known (tree_walk s) c.walk.stack.items c.pop.new.self.items c.in-Enter.e popped c.enter.new.stack.items (file_at s c.walk.writer) (file_at s c.enter.new.writer) entered c.walk.invariant.known;
      leads = enters_leads (tree_walk s) c.walk.stack.items c.pop.new.self.items c.in-Enter.e popped c.enter.new.stack.items (file_at s c.walk.writer) (file_at s c.enter.new.writer) entered
          (write_tree (tree_at s c.args.tree) (file_at s c.args.writer.now)) c.walk.invariant.leads;
    }

pub add_line-requires-clause-tree_in : goal.add_line-requires-clause-tree_in
add_line-requires-clause-tree_in g c =
    leaves_in (tree_walk (g.T.Terms.contents c.args.store.now)) c.walk.stack.items c.pop.new.self.items c.in-Leave.e (search rules) c.walk.invariant.known

pub walk-smaller : goal.walk-smaller
walk-smaller g c = leaves_less (tree_walk (g.T.Terms.contents c.args.store.now)) c.walk.stack.items c.pop.new.self.items c.in-Leave.e (search rules)

pub walk-preserved : goal.walk-preserved
walk-preserved g c =
    let s = g.T.Terms.contents c.args.store.now in
    let popped : c.walk.stack.items ≡ c.pop.new.self.items ++ Leave c.in-Leave.e ∷ [] = search rules in
    record {
      numbers = c.in_ok-add_line-in-Leave.ensures.numbers;
      known = leaves_known (tree_walk s) c.walk.stack.items c.pop.new.self.items c.in-Leave.e popped c.walk.invariant.known;
      leads = leaves_leads (tree_walk s) c.walk.stack.items c.pop.new.self.items c.in-Leave.e popped (file_at s c.walk.writer) (file_at s c.add_line.new.writer)
          (write_tree (tree_at s c.args.tree) (file_at s c.args.writer.now)) c.in_ok-add_line-in-Leave.ensures.file c.walk.invariant.leads;
    }
