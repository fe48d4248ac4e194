use Rattle.std.proofs.Common.{◌≡◌, ◌<◌, length}
use Rattle.std.specs.Prelude.{nat_eq}
use Rattle.lk_store.specs.Contents.{list_at}
use Rattle.lk_lazy.proofs.levels.same_length.Given as goal

abbrev pub invariant-down : goal.invariant-down
invariant-down g l =
    let c = g.T.Terms.contents l.terms in
    record {
      left_in : l.left < length c.lists;
      right_in : l.right < length c.lists;
      same : nat_eq (length (list_at c l.left)) (length (list_at c l.right)) ≡ nat_eq (length (list_at c l.a)) (length (list_at c l.b));
    }

abbrev pub decreases-down : goal.decreases-down
decreases-down g l = length (list_at (g.T.Terms.contents l.terms) l.left)
