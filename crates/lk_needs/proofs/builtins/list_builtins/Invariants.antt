use Rattle.lk_store.specs.Store.{contents_of}
use Rattle.lk_needs.specs.Builtins.{AreBuiltinsTo}
use Rattle.lk_needs.proofs.builtins.list_builtins.Given as goal

abbrev pub invariant-loop-name : goal.invariant-loop-name
invariant-loop-name l = AreBuiltinsTo (contents_of l.base) l.name l.things.items
