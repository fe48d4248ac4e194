use Rattle.lk_store.specs.Store.{contents_of}
use Rattle.lk_env.specs.Units.{library_at}
use Rattle.lk_recheck.proofs.Marks.{MarksTo}
use Rattle.lk_recheck.proofs.changed.changed_units.Given as goal

abbrev pub invariant-loop-number : goal.invariant-loop-number
invariant-loop-number l =
    MarksTo (library_at (contents_of l.base) l.old) (library_at (contents_of l.base) l.new)
    l.number l.marks.items
