use Rattle.std.proofs.Common.{length, take}
use Rattle.std.specs.List.{AllZip}
use Rattle.lk_recheck.proofs.same.all_same.Given as goal

abbrev pub invariant-loop-x : goal.invariant-loop-x
invariant-loop-x g l =
    AllZip g.T.Compared.Same (take (length l.yielded) l.a) (take (length l.yielded) l.b)
