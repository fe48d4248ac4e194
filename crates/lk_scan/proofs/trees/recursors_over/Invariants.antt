use Rattle.std.proofs.Common.{◌≡◌, take, true}
use Rattle.std.specs.List.{list_all}
use Rattle.lk_store.specs.Store.{contents_of}
use Rattle.lk_scan.specs.Members.{IsWalked, recursor_over}
use Rattle.lk_scan.proofs.trees.recursors_over.Given as goal

abbrev pub invariant-loop-r : goal.invariant-loop-r
invariant-loop-r l =
    record {
      walked : IsWalked (contents_of l.base) l.walked;
      so_far : list_all (recursor_over (contents_of l.base)) (take l.r-index l.recursors) ≡ true;
    }
