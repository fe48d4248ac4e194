use Rattle.lk_store.specs.Store.{contents_of}
use Rattle.lk_env.specs.Units.{library_of}
use Rattle.lk_axioms.specs.Gathered.{IsRight, AreKept}
use Rattle.lk_axioms.proofs.units.gather_units.Given as goal

abbrev pub invariant-loop-i : goal.invariant-loop-i
invariant-loop-i l = record {
  right : IsRight (contents_of l.library.tables) (library_of l.library) l.i l.gathering;
  still : AreKept (library_of l.library) l.gathering.sets l.kept l.stale;
}
