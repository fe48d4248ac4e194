use Rattle.std.proofs.Common.{refl}
use Rattle.lk_store.specs.Store.{contents_of}
use Rattle.lk_env.specs.Units.{library_of}
use Rattle.lk_axioms.proofs.Left.{left}
use Rattle.lk_axioms.proofs.gathering.leave.Goals as goal

pub returns : goal.returns
returns c =
    left (contents_of c.args.library.now.tables) (library_of c.args.library.now) c.args.unit c.args.gathering.now c.find_in_node.new.gathering _ c.args.e c.args.node c.in_ok-finding.finding
    c.requires.right c.requires.is_node c.in_ok-finding.ensures refl refl refl
