use Rattle.std.proofs.Common.{◌≡◌, ◌<◌, length, map}
use Rattle.lk_written.specs.Section.{laws_read}
use Rattle.lk_store.specs.Contents.{tree_at, Extends}
use Rattle.lk_laws.specs.Sides.{law_at}
use Rattle.lk_premises.specs.Claims.{claims_at, AreClaimsIn}
use Rattle.lk_replay.proofs.laws.test_each.Given as goal

abbrev pub invariant-laws : goal.invariant-laws
invariant-laws g l =
    let c = g.L.Terms.contents l.fn.looks in
    let d = g.L.Terms.contents l.looks in
    let w = (g.L.Looks.sight (g.L.Terms.rest l.fn.looks)).basis.place in
    let ps = claims_at c l.fn.claims in
    let v = tree_at c l.fn.value in
    record {
      grown : Extends c d;
      stays : (g.L.Looks.sight (g.L.Terms.rest l.looks)).basis ≡ (g.L.Looks.sight (g.L.Terms.rest l.fn.looks)).basis;
      claims_in : AreClaimsIn d l.claims;
      value_in : l.value < length d.trees;
      is : laws_read w ps l.premises (map (law_at v) l.rest) ≡ laws_read w ps l.fn.left (map (law_at v) l.fn.laws);
    }

abbrev pub decreases-laws : goal.decreases-laws
decreases-laws g l = length l.rest
