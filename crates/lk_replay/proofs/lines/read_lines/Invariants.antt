use Rattle.std.proofs.Common.{◌≡◌, [], length, map, All}
use Rattle.lk_written.specs.Section.{claims_by, line_at_fault}
use Rattle.lk_store.specs.Contents.{Extends}
use Rattle.lk_trace.specs.Meaning.{line_of, IsLineIn}
use Rattle.lk_fine.specs.Walks.{AreFit}
use Rattle.lk_premises.specs.Claims.{claims_at, AreClaimsIn}
use Rattle.lk_replay.proofs.lines.read_lines.Given as goal

abbrev pub invariant-lines : goal.invariant-lines
invariant-lines g l =
    let c = g.L.Terms.contents l.fn.looks in
    let d = g.L.Terms.contents l.looks in
    let w = (g.L.Looks.sight (g.L.Terms.rest l.fn.looks)).basis.place in
    record {
      grown : Extends c d;
      stays : (g.L.Looks.sight (g.L.Terms.rest l.looks)).basis ≡ (g.L.Looks.sight (g.L.Terms.rest l.fn.looks)).basis;
      claims_in : AreClaimsIn d l.claims.items;
      lines_in : All (IsLineIn c) l.rest;
      fit : AreFit d l.met;
      claims : claims_by w (claims_at d l.claims.items) (map (line_of c) l.rest) ≡ claims_by w [] (map (line_of c) l.fn.lines);
      fault : line_at_fault w (claims_at d l.claims.items) (length l.claims.items) (map (line_of c) l.rest) ≡ line_at_fault w [] 0 (map (line_of c) l.fn.lines);
    }

abbrev pub decreases-lines : goal.decreases-lines
decreases-lines g l = length l.rest
