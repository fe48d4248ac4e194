use Rattle.std.proofs.Common.{◌≡◌, take, true}
use Rattle.std.specs.List.{list_all}
use Rattle.lk_store.specs.Store.{contents_of}
use Rattle.lk_scan.specs.Members.{IsWalked, type_over}
use Rattle.lk_scan.proofs.trees.types_over.Given as goal

abbrev pub invariant-loop-t : goal.invariant-loop-t
invariant-loop-t l =
    record {
      walked : IsWalked (contents_of l.base) l.walked;
      so_far : list_all (type_over (contents_of l.base)) (take l.t-index l.types) ≡ true;
    }
