use Rattle.std.proofs.Common.{◌≡◌, ◌<◌, length, map}
use Rattle.std.specs.Prelude.{All}
use Rattle.lk_written.specs.Typing.{past}
use Rattle.lk_store.specs.Contents.{tree_at, Extends}
use Rattle.lk_premises.specs.Claims.{claims_at, AreClaimsIn}
use Rattle.lk_replay_types.proofs.parameters.past_parameters.Given as goal

abbrev pub invariant-parameters : goal.invariant-parameters
invariant-parameters g l =
    let c = g.T.Terms.contents l.fn.terms in
    let d = g.T.Terms.contents l.terms in
    let ps = claims_at c l.fn.claims in
    record {
      grown : Extends c d;
      stays : g.T.Terms.rest l.terms ≡ g.T.Terms.rest l.fn.terms;
      claims_in : AreClaimsIn d l.claims;
      tree_in : l.at.tree < length d.trees;
      arguments_in : All (λ x. x < length c.trees) l.rest;
      is : past ps l.at.after.now (map (tree_at c) l.rest) l.due (tree_at d l.at.tree)
          ≡ past ps l.fn.left (map (tree_at c) l.fn.arguments) l.fn.parameters (tree_at c l.fn.ty);
    }

abbrev pub decreases-parameters : goal.decreases-parameters
decreases-parameters g l = l.due
