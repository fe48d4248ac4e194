use Rattle.std.proofs.Common.{◌≡◌, ℕ, ◌<◌, true, nat_le, length, arith}
use Rattle.std.proofs.lemmas.Bool.Decides.{nat_tests}
use Rattle.std.proofs.lemmas.List.Elements.{All-tail}
use Rattle.lk_tree.specs.Bind.{bound}
use Rattle.lk_store.specs.Contents.{tree_at}
use Rattle.lk_premises.proofs.locals.is_fresh.Goals as goal

pub trees-preserved : goal.trees-preserved
trees-preserved g c =
    let t = g.T.Terms.contents c.args.terms.now in
    let first = c.in-Some.e.now in
    let is = c.in-Some.ensures.cases.0 in
    let below : nat_le (bound (tree_at t first)) c.args.number ≡ true = grind (arith, nat_tests) in
    record {
      known = All-tail (λ (e : ℕ). e < length t.trees) first c.in-Some.more.now (rw is at c.trees.invariant.known);
      fresh = rw below at (rw is at c.trees.invariant.fresh);
    }
