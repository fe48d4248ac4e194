use Rattle.lk_store.specs.Store.{contents_of}
use Rattle.lk_env.specs.Units.{library_at}
use Rattle.lk_recheck.specs.Same.{StandsOnce}
use Rattle.lk_recheck.proofs.Marks.{one_marked}
use Rattle.lk_recheck.proofs.changed.changed_units.Goals as goal

pub loop-number-preserved : goal.loop-number-preserved
loop-number-preserved c =
    let once : StandsOnce (contents_of c.args.base.now) = record {
      names = c.count_names-names.ensures.apart;
      trees = c.stands_once.ensures.trees;
    } in
    rw c.in_ok-push.ensures.items
    (one_marked (library_at (contents_of c.args.base.now) c.args.old.now)
    (library_at (contents_of c.args.base.now) c.args.new.now) c.loop-number.number
    c.loop-number.marks.items c.same_at.result c.loop-number.invariant
    (c.same_at.ensures (contents_of c.args.base.now) once c.requires.old_in c.requires.new_in))
