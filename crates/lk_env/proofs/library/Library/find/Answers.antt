use Rattle.std.proofs.Common.{sym}
use Rattle.lk_store.specs.Contents.{name_of}
use Rattle.lk_store.specs.Store.{contents_of}
use Rattle.lk_env.proofs.Members.{absent_position}
use Rattle.lk_env.proofs.library.Library.find.Goals as goal

pub returns-in-None : goal.returns-in-None
returns-in-None c =
    let at = contents_of c.self.inside.base in
    rw (← c.self.view_is) (sym (absent_position at (name_of at c.args.node) c.in-None.ensures.absent 0 c.self.inside.units.items c.self.invariant.0))
