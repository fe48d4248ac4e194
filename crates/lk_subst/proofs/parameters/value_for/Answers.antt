use Rattle.std.proofs.Common.{◌≢◌, ℕ, get_or, sym, arith, below_more}
use Rattle.lk_store.specs.Contents.{name_at}
use Rattle.lk_subst.proofs.LevelValues.{names_differ, level_for-at, level_for-none}
use Rattle.lk_subst.proofs.parameters.value_for.Goals as goal

pub returns-then-i-values-clause-absent : goal.returns-then-i-values-clause-absent
returns-then-i-values-clause-absent g c =
    let t = g.T.Terms.contents c.args.terms.now in
    let past = c.if-i-values.true in
    level_for-none t c.args.params.now c.args.values.now (name_at t c.args.name) (λ k a b. c.loop-i.invariant.others k (omega arith))

pub returns-then-same_name-clause-present : goal.returns-then-same_name-clause-present
returns-then-same_name-clause-present g c =
    let t = g.T.Terms.contents c.args.terms.now in
    let l = c.loop-i-test.true in
    let m = c.if-i-values.false in
    let same = c.same_name.ensures.0 c.if-same_name.true in
    record {
      known = c.requires.values_in c.loop-i.i 0 (omega arith);
      is = sym (level_for-at t c.args.params.now c.args.values.now (name_at t c.args.name) c.loop-i.i (omega arith) (omega arith) c.loop-i.invariant.others same);
    }

pub loop-i-preserved : goal.loop-i-preserved
loop-i-preserved g c =
    let t = g.T.Terms.contents c.args.terms.now in
    let m = c.if-i-values.false in
    let other = names_differ c.same_name.result c.same_name.ensures c.if-same_name.false in
    record {
      within = omega arith;
      others = below_more (λ (k : ℕ). name_at t (get_or c.args.params.now k 0) ≢ name_at t c.args.name) c.loop-i.i c.loop-i.invariant.others other;
    }

pub returns-clause-absent : goal.returns-clause-absent
returns-clause-absent g c =
    let t = g.T.Terms.contents c.args.terms.now in
    let past = c.loop-i-test.false in
    level_for-none t c.args.params.now c.args.values.now (name_at t c.args.name) (λ k a b. c.loop-i.invariant.others k (omega arith))
