use Rattle.std.proofs.Common.{◌≡◌, ◌+◌, suc, sym, ap, ◌∙◌, arith}
use Rattle.lk_questions.specs.Core.{lambdas}
use Rattle.lk_store.specs.Contents.{tree_at}
use Rattle.lk_replay_reduce.specs.Lambdas.{under}
use Rattle.lk_replay_reduce.proofs.Lambdas.{under_next}
use Rattle.lk_replay_reduce.proofs.beta.body_under.Goals as goal

pub down-preserved : goal.down-preserved
down-preserved g c =
    let t = g.T.Terms.contents c.args.terms.now in
    let was = c.down.invariant in
    let is = c.in-Lam.ensures.tree in
    let one = ap lambdas is in
    let left = was.left in
    let more = c.down-test.true in
    let next : c.down.count + 1 ≡ suc c.down.count = omega arith in
    record {
      known = c.in-Lam.ensures.known.1;
      few = omega arith;
      left = omega arith;
      under = ap (λ n. under n (tree_at t c.args.head)) next ∙ under_next c.down.count (tree_at t c.args.head) _ (tree_at t c.in-Lam.inner) (was.under ∙ sym is);
    }
