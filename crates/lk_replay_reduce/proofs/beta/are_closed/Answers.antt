use Rattle.std.proofs.Common.{◌≡◌, get_or, subst, arith, rules}
use Rattle.std.specs.Prelude.{All}
use Rattle.std.proofs.lemmas.List.{take_all}
use Rattle.std.proofs.lemmas.List.Elements.{All-more}
use Rattle.lk_tree.specs.Loose.{loose}
use Rattle.lk_store.specs.Contents.{tree_at}
use Rattle.lk_replay_reduce.proofs.beta.are_closed.Goals as goal

pub loop-v-preserved : goal.loop-v-preserved
loop-v-preserved g c =
    let t = g.T.Terms.contents c.args.terms.now in
    let here : loose (tree_at t (get_or c.args.values.now c.loop-v.v-index 0)) ≡ 0 = search rules in
    record { closed = All-more (λ v. loose (tree_at t v) ≡ 0) c.args.values.now c.loop-v.v-index 0 c.loop-v-test.true c.loop-v.invariant.closed here }

pub returns : goal.returns
returns g c u =
    let t = g.T.Terms.contents c.args.terms.now in
    let past = c.loop-v-test.false in
    subst (All (λ v. loose (tree_at t v) ≡ 0)) (take_all c.loop-v.v-index c.args.values.now (omega arith)) c.loop-v.invariant.closed
