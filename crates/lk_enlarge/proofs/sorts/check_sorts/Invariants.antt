use Rattle.std.proofs.Common.{◌≡◌, length, All}
use Rattle.lk_inductive.specs.Nested.{aux_sorts}
use Rattle.lk_store.specs.Contents.{level_at}
use Rattle.lk_auxiliary.specs.Auxiliaries.{auxs_at, IsAuxiliaryIn}
use Rattle.lk_enlarge.proofs.sorts.check_sorts.Given as goal

abbrev pub invariant-auxs : goal.invariant-auxs
invariant-auxs g l =
    let c = g.T.Terms.contents l.terms in
    record {
      left_in : All (IsAuxiliaryIn c) l.left;
      leads : aux_sorts (level_at c l.level) (auxs_at c l.auxs) ≡ aux_sorts (level_at c l.level) (auxs_at c l.left);
    }

abbrev pub decreases-auxs : goal.decreases-auxs
decreases-auxs g l = length l.left
