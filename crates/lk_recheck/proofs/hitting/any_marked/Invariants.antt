use Rattle.std.proofs.Common.{take}
use Rattle.lk_recheck.specs.Hits.{AnyMarked}
use Rattle.lk_recheck.proofs.hitting.any_marked.Given as goal

abbrev pub invariant-loop-thing : goal.invariant-loop-thing
invariant-loop-thing l = AnyMarked l.hits (take l.thing-index l.things) → ⊥
