use Rattle.std.proofs.Common.{◌≡◌, ◌<◌, ◌≤◌, ◌-◌, length, map}
use Rattle.std.specs.Prelude.{All}
use Rattle.lk_written.specs.Equal.{fields_equal}
use Rattle.lk_store.specs.Contents.{name_at, tree_at, Extends}
use Rattle.lk_premises.specs.Claims.{claims_at, AreClaimsIn}
use Rattle.lk_replay_equal.proofs.structures.equal_each.Given as goal

abbrev pub invariant-fields : goal.invariant-fields
invariant-fields g l =
    let c = g.T.Terms.contents l.fn.terms in
    let d = g.T.Terms.contents l.terms in
    let ps = claims_at c l.fn.claims in
    let J = name_at c l.inductive in
    let a = tree_at c l.a in
    record {
      grown : Extends c d;
      stays : g.T.Terms.rest l.terms ≡ g.T.Terms.rest l.fn.terms;
      claims_in : AreClaimsIn d l.claims;
      inductive_in : l.inductive < length d.names;
      a_in : l.a < length d.trees;
      fields_in : All (λ x. x < length c.trees) l.rest;
      few : length l.rest ≤ length l.fn.fields;
      is : fields_equal ps l.at J a (length l.fn.fields - length l.rest) (map (tree_at c) l.rest)
          ≡ fields_equal ps l.fn.left J a 0 (map (tree_at c) l.fn.fields);
    }

abbrev pub decreases-fields : goal.decreases-fields
decreases-fields g l = length l.rest
