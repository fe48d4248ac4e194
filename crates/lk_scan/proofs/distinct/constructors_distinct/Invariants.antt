use Rattle.std.proofs.Common.{◌≡◌, take, true}
use Rattle.std.specs.List.{list_all}
use Rattle.lk_store.specs.Store.{contents_of}
use Rattle.lk_scan.specs.Members.{constructor_different}
use Rattle.lk_scan.proofs.distinct.constructors_distinct.Given as goal

abbrev pub invariant-loop-k : goal.invariant-loop-k
invariant-loop-k l = list_all (constructor_different (contents_of l.base)) (take l.k-index l.constructors) ≡ true
