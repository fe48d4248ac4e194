use Rattle.lk_store.specs.Store.{contents_of}
use Rattle.lk_env.specs.Units.{library_of}
use Rattle.lk_axioms.specs.Lists.{Keeps}
use Rattle.lk_axioms.specs.Gathered.{IsRight, StaysKnown}
use Rattle.lk_axioms.proofs.Walk.{IsUnderWay, turns}
use Rattle.lk_axioms.proofs.gathering.gather.Given as goal

abbrev pub invariant-walk : goal.invariant-walk
invariant-walk l = record {
  right : IsRight (contents_of l.library.tables) (library_of l.library) l.unit l.gathering;
  keeps : Keeps l.initial.gathering.sets l.gathering.sets;
  stays : StaysKnown l.unit l.initial.gathering l.gathering;
  under_way : IsUnderWay (contents_of l.library.tables) l.unit l.gathering.cells.items l.stack.items l.tree;
}

abbrev pub decreases-walk : goal.decreases-walk
decreases-walk l = turns (contents_of l.library.tables) l.stack.items
