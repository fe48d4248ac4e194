use Rattle.std.proofs.Common.{◌≡◌, take, true}
use Rattle.std.specs.List.{list_all}
use Rattle.lk_store.specs.Store.{contents_of}
use Rattle.lk_scan.specs.Members.{IsWalked, constructor_over}
use Rattle.lk_scan.proofs.trees.constructors_over.Given as goal

abbrev pub invariant-loop-k : goal.invariant-loop-k
invariant-loop-k l =
    record {
      walked : IsWalked (contents_of l.base) l.walked;
      so_far : list_all (constructor_over (contents_of l.base)) (take l.k-index l.constructors) ≡ true;
    }
