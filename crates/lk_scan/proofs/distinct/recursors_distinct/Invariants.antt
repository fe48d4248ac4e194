use Rattle.std.proofs.Common.{◌≡◌, take, true}
use Rattle.std.specs.List.{list_all}
use Rattle.lk_store.specs.Store.{contents_of}
use Rattle.lk_scan.specs.Members.{recursor_different}
use Rattle.lk_scan.proofs.distinct.recursors_distinct.Given as goal

abbrev pub invariant-loop-r : goal.invariant-loop-r
invariant-loop-r l = list_all (recursor_different (contents_of l.base)) (take l.r-index l.recursors) ≡ true
