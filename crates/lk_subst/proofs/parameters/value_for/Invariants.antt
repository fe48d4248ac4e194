use Rattle.std.proofs.Common.{◌≢◌, ℕ, ◌<◌, ◌≤◌, length, get_or}
use Rattle.lk_store.specs.Contents.{name_at}
use Rattle.lk_subst.proofs.parameters.value_for.Given as goal

abbrev pub invariant-loop-i : goal.invariant-loop-i
invariant-loop-i g l =
    let c = g.T.Terms.contents l.terms in
    record {
      within : l.i ≤ length l.values;
      others : (k : ℕ) → k < l.i → name_at c (get_or l.params k 0) ≢ name_at c l.name;
    }
