use Rattle.lk_needs.proofs.Marked.{unit_marks, name_marks, tree_marks, numbered_marks}
use Rattle.lk_needs.proofs.needs.Needs.mark.Goals as goal

pub returns-in-Unit : goal.returns-in-Unit
returns-in-Unit c = let inside = rw c.in-Unit.is at c.requires in rw c.in-Unit.is (unit_marks c.args.self.now c.set_mark.new.marks c.in-Unit.u c.set_mark.result inside c.set_mark.ensures.was c.set_mark.ensures.set)

pub returns-in-Name : goal.returns-in-Name
returns-in-Name c = let inside = rw c.in-Name.is at c.requires in rw c.in-Name.is (name_marks c.args.self.now c.set_mark-in-Name.new.marks c.in-Name.n c.set_mark-in-Name.result inside c.set_mark-in-Name.ensures.was c.set_mark-in-Name.ensures.set)

pub returns-in-Tree : goal.returns-in-Tree
returns-in-Tree c = let inside = rw c.in-Tree.is at c.requires in rw c.in-Tree.is (tree_marks c.args.self.now c.set_mark-in-Tree.new.marks c.in-Tree.e c.set_mark-in-Tree.result inside c.set_mark-in-Tree.ensures.was c.set_mark-in-Tree.ensures.set)

pub returns-in-Numbered : goal.returns-in-Numbered
returns-in-Numbered c = let inside = rw c.in-Numbered.is at c.requires in rw c.in-Numbered.is (numbered_marks c.args.self.now c.set_mark-in-Numbered.new.marks c.in-Numbered.n c.set_mark-in-Numbered.result inside c.set_mark-in-Numbered.ensures.was c.set_mark-in-Numbered.ensures.set)
