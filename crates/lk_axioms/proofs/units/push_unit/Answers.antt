use Rattle.std.proofs.Common.{refl}
use Rattle.lk_store.specs.Store.{contents_of}
use Rattle.lk_env.specs.Units.{library_of}
use Rattle.lk_axioms.proofs.Course.{unit_done}
use Rattle.lk_axioms.proofs.units.push_unit.Goals as goal

pub returns-clause-right : goal.returns-clause-right
returns-clause-right c =
    unit_done (contents_of c.args.library.now.tables) (library_of c.args.library.now) c.args.unit c.gather_unit.new.gathering _ c.in_ok-set.set c.in_ok-set.ensures.right c.in_ok-set.ensures.unit_set refl refl c.in_ok-push.ensures.items

pub returns-clause-keeps : goal.returns-clause-keeps
returns-clause-keeps c = c.in_ok-set.ensures.keeps
