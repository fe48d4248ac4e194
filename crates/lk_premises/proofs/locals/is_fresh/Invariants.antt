use Rattle.std.proofs.Common.{◌≡◌, ◌<◌, length, map}
use Rattle.std.specs.Prelude.{All}
use Rattle.lk_written.specs.Premises.{is_fresh as is_above}
use Rattle.lk_store.specs.Contents.{tree_at}
use Rattle.lk_premises.proofs.locals.is_fresh.Given as goal

abbrev pub invariant-trees : goal.invariant-trees
invariant-trees g l =
    let c = g.T.Terms.contents l.terms in
    record {
      known : All (λ e. e < length c.trees) l.rest;
      fresh : is_above l.number (map (tree_at c) l.rest)
          ≡ is_above l.number (map (tree_at c) l.fn.trees);
    }

abbrev pub decreases-trees : goal.decreases-trees
decreases-trees g l = length l.rest
