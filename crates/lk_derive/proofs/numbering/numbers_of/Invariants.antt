use Rattle.std.proofs.Common.{length}
use Rattle.lk_derive.specs.Notes.{stated_at}
use Rattle.lk_derive.proofs.Named.{IsNaming}
use Rattle.lk_derive.proofs.numbering.numbers_of.Given as goal

abbrev pub invariant-claims : goal.invariant-claims
invariant-claims g l =
    let c = g.T.Terms.contents l.terms in
    IsNaming c (stated_at c l.notes) l.fn.claims l.rest l.numbers.items

abbrev pub decreases-claims : goal.decreases-claims
decreases-claims g l = length l.rest
