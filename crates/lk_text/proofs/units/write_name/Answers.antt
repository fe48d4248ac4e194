use Rattle.std.proofs.Common.{sym}
use Rattle.lk_store.specs.Store.{contents_of}
use Rattle.lk_text.proofs.Naming.{name_known}
use Rattle.lk_text.proofs.units.write_name.Goals as goal

pub add_name-requires : goal.add_name-requires
add_name-requires c =
    let known = name_known (contents_of c.args.library.now.tables) c.args.unit.now c.in-Some.first c.requires (sym c.in-Some.ensures) in
    rw c.base.ensures known
