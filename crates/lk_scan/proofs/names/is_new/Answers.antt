use Rattle.lk_store.specs.Contents.{name_at}
use Rattle.lk_store.specs.Store.{contents_of}
use Rattle.lk_env.specs.Units.{library_of}
use Rattle.lk_scan.proofs.Given.{new_is}
use Rattle.lk_scan.proofs.names.is_new.Goals as goal

pub returns : goal.returns
returns c = new_is (library_of c.args.library.now) c.args.units (name_at (contents_of c.args.library.now.tables) c.args.name) c.position_before-place.result c.is_none.result c.position_before-place.ensures c.is_none.ensures
