use Rattle.std.proofs.Common.{take}
use Rattle.lk_store.specs.Store.{contents_of}
use Rattle.lk_env.specs.Scan.{AreFlaws}
use Rattle.lk_env.proofs.scan.flaws_of.Given as goal

abbrev pub invariant-loop-unit : goal.invariant-loop-unit
invariant-loop-unit l = AreFlaws (contents_of l.base) (take l.unit-index l.units) l.flaws.items
