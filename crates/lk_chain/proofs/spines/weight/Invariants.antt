use Rattle.std.proofs.Common.{◌<◌, length, All}
use Rattle.lk_chain.proofs.spines.weight.Given as goal

abbrev pub invariant-loop-count : goal.invariant-loop-count
invariant-loop-count g l = All (λ x. x < length (g.L.Terms.contents l.looks).trees) l.waiting.items
