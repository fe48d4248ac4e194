use Rattle.std.proofs.Common.{length, map}
use Rattle.std.specs.Prelude.{All}
use Rattle.lk_trace.specs.Meaning.{IsLineIn}
use Rattle.lk_premises.specs.Claims.{claim_at, claims_at}
use Rattle.lk_derive.specs.Notes.{claim_of}
use Rattle.lk_derive.proofs.Searched.{IsSearching}
use Rattle.lk_derive.proofs.numbering.search.Given as goal

abbrev pub invariant-lines : goal.invariant-lines
invariant-lines g l =
    let c = g.T.Terms.contents l.terms in
    record {
      lines_in : All (IsLineIn c) l.rest;
      searching : IsSearching (claims_at c (map claim_of l.fn.lines)) (claim_at c l.claim) (claims_at c (map claim_of l.rest)) l.place;
    }

abbrev pub decreases-lines : goal.decreases-lines
decreases-lines g l = length l.rest
