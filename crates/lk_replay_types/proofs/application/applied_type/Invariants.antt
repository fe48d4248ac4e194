use Rattle.std.proofs.Common.{◌≡◌, ◌<◌, length}
use Rattle.std.specs.Prelude.{All}
use Rattle.lk_written.specs.Typing.{applied_type}
use Rattle.lk_store.specs.Contents.{tree_at, Extends}
use Rattle.lk_premises.specs.Claims.{claims_at, AreClaimsIn}
use Rattle.lk_premises.specs.Spines.{stack_at}
use Rattle.lk_replay_types.proofs.application.applied_type.Given as goal

abbrev pub invariant-arguments : goal.invariant-arguments
invariant-arguments g l =
    let c = g.T.Terms.contents l.fn.terms in
    let d = g.T.Terms.contents l.terms in
    let ps = claims_at c l.fn.claims in
    record {
      grown : Extends c d;
      stays : g.T.Terms.rest l.terms ≡ g.T.Terms.rest l.fn.terms;
      claims_in : AreClaimsIn d l.claims;
      tree_in : l.at.tree < length d.trees;
      arguments_in : All (λ x. x < length d.trees) l.arguments.items;
      is : applied_type ps l.at.after.now (tree_at d l.at.tree) (stack_at d l.arguments.items)
          ≡ applied_type ps l.fn.left (tree_at c l.fn.function) (stack_at c l.fn.arguments.items);
    }

abbrev pub decreases-arguments : goal.decreases-arguments
decreases-arguments g l = length l.arguments.items
