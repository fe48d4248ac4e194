use Rattle.std.proofs.Common.{rules}
use Rattle.lk_store.specs.Store.{contents_of}
use Rattle.lk_axioms.proofs.Listed.{Keeps-trans}
use Rattle.lk_axioms.proofs.Walk.{enters_in, entered_less, enters, leaves_node, leaves_parts, leaves, leaves_less}
use Rattle.lk_axioms.proofs.gathering.gather.Goals as goal

pub enter-requires-clause-tree_in : goal.enter-requires-clause-tree_in
enter-requires-clause-tree_in c =
    rw c.base.ensures (enters_in (contents_of c.args.library.now.tables) c.args.unit c.walk.gathering.cells.items c.walk.stack.items c.pop.new.self.items c.in-Enter.e (search rules) c.args.tree c.walk.invariant.under_way)

pub walk-smaller-in-Continue-branch-2 : goal.walk-smaller-in-Continue-branch-2
walk-smaller-in-Continue-branch-2 c =
    entered_less (contents_of c.args.library.now.tables) c.args.unit c.walk.gathering.cells.items c.walk.stack.items c.pop.new.self.items c.in-Enter.e (search rules)
    c.enter.new.stack.items (rw c.base.ensures at c.in_ok-enter-in-Enter.ensures)

pub walk-preserved-in-Continue-branch-2 : goal.walk-preserved-in-Continue-branch-2
walk-preserved-in-Continue-branch-2 c = record {
  right = c.walk.invariant.right;
  keeps = c.walk.invariant.keeps;
  stays = c.walk.invariant.stays;
  under_way = enters (contents_of c.args.library.now.tables) c.args.unit c.walk.gathering.cells.items c.walk.stack.items c.pop.new.self.items c.in-Enter.e (search rules)
      c.enter.new.stack.items (rw c.base.ensures at c.in_ok-enter-in-Enter.ensures) c.args.tree c.walk.invariant.under_way;
}

pub leave-requires-clause-is_node : goal.leave-requires-clause-is_node
leave-requires-clause-is_node c =
    leaves_node (contents_of c.args.library.now.tables) c.args.unit c.walk.gathering.cells.items c.walk.stack.items c.pop.new.self.items c.in-Leave.e c.in-Leave.node (search rules) c.args.tree c.walk.invariant.under_way

pub leave-requires-clause-parts : goal.leave-requires-clause-parts
leave-requires-clause-parts c =
    leaves_parts (contents_of c.args.library.now.tables) c.args.unit c.walk.gathering.cells.items c.walk.stack.items c.pop.new.self.items c.in-Leave.e c.in-Leave.node (search rules) c.args.tree c.walk.invariant.under_way

pub walk-smaller : goal.walk-smaller
walk-smaller c = leaves_less (contents_of c.args.library.now.tables) c.walk.stack.items c.pop.new.self.items c.in-Leave.e c.in-Leave.node (search rules)

pub walk-preserved : goal.walk-preserved
walk-preserved c =
    let left = c.in_ok-leave-in-Leave.ensures in
    record {
      right = left.right;
      keeps = Keeps-trans c.args.gathering.now.sets c.walk.gathering.sets c.leave.new.gathering.sets c.walk.invariant.keeps left.keeps;
      stays = λ q k. left.stays q (c.walk.invariant.stays q k);
      under_way = leaves (contents_of c.args.library.now.tables) c.args.unit c.walk.gathering.cells.items c.walk.stack.items c.pop.new.self.items c.in-Leave.e c.in-Leave.node (search rules) c.args.tree
          c.walk.invariant.under_way c.leave.new.gathering.cells.items left.stays left.known;
    }
