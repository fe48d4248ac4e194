use Rattle.lk_store.specs.Store.{contents_of}
use Rattle.lk_needs.proofs.Spelled.{no_builtins}
use Rattle.lk_needs.proofs.builtins.list_builtins.Goals as goal

pub loop-name-init : goal.loop-name-init
loop-name-init c = no_builtins (contents_of c.args.base.now) c.clear.new.self.items c.clear.ensures.items
