use Rattle.std.proofs.Common.{◌≡◌, length}
use Rattle.std.specs.Prelude.{All}
use Rattle.lk_written.specs.Equal.{pairs_equal}
use Rattle.lk_premises.specs.Claims.{claims_at}
use Rattle.lk_replay_equal.specs.Pairs.{pairs_at, IsPairIn}
use Rattle.lk_replay_equal.proofs.spines.equal_pairs.Given as goal

abbrev pub invariant-pairs : goal.invariant-pairs
invariant-pairs g l =
    let c = g.T.Terms.contents l.terms in
    let ps = claims_at c l.claims in
    record {
      pairs_in : All (IsPairIn c) l.pairs.items;
      is : pairs_equal ps l.rest (pairs_at c l.pairs.items)
          ≡ pairs_equal ps l.fn.left (pairs_at c l.fn.pairs.items);
    }

abbrev pub decreases-pairs : goal.decreases-pairs
decreases-pairs g l = length l.pairs.items
