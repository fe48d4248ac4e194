use Rattle.std.proofs.Common.{List, map, ap}
use Rattle.std.proofs.lemmas.List.Elements.{All-rest}
use Rattle.lk_trace.specs.declared.sections.Line.{Line}
use Rattle.lk_trace.specs.Meaning.{IsLineIn}
use Rattle.lk_premises.specs.Claims.{claim_at, claims_at}
use Rattle.lk_derive.specs.Notes.{claim_of}
use Rattle.lk_derive.proofs.Claimed.{same_claim, other_claim}
use Rattle.lk_derive.proofs.Searched.{search_found, search_more}
use Rattle.lk_derive.proofs.numbering.search.Goals as goal

pub returns-then-are_same : goal.returns-then-are_same
returns-then-are_same g c =
    let t = g.T.Terms.contents c.args.terms.now in
    let k = claim_of c.in-Some.line.now in
    search_found (claims_at t (map claim_of c.args.lines.now)) (claim_at t c.args.claim) (claims_at t (map claim_of c.lines.rest.now)) c.lines.place c.lines.invariant.searching
    (claim_at t k) (claims_at t (map claim_of c.in-Some.more.now)) (ap (λ (ls : List Line). claims_at t (map claim_of ls)) c.in-Some.ensures.cases.0)
    (same_claim t k c.claim_with-stated.result c.args.claim c.are_same.result c.claim_with-stated.ensures c.are_same.ensures c.if-are_same.true)

pub lines-preserved : goal.lines-preserved
lines-preserved g c =
    let t = g.T.Terms.contents c.args.terms.now in
    let k = claim_of c.in-Some.line.now in
    record {
      lines_in = All-rest (IsLineIn t) c.in-Some.line.now c.in-Some.more.now c.lines.rest.now c.in-Some.ensures.cases.0 c.lines.invariant.lines_in;
      searching = search_more (claims_at t (map claim_of c.args.lines.now)) (claim_at t c.args.claim) (claims_at t (map claim_of c.lines.rest.now)) c.lines.place c.lines.invariant.searching
          (claim_at t k) (claims_at t (map claim_of c.in-Some.more.now)) (ap (λ (ls : List Line). claims_at t (map claim_of ls)) c.in-Some.ensures.cases.0)
          (other_claim t k c.claim_with-stated.result c.args.claim c.are_same.result c.claim_with-stated.ensures c.are_same.ensures c.if-are_same.false);
    }
