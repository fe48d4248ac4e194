use Rattle.std.proofs.Common.{◌≡◌, ◌+◌, ◌<◌, ◌≤◌, ◌⊎◌, inl, inr, length, ◌++◌, get_or, drop, subst, sym, refl, arith}
use Rattle.std.specs.List.Sorted.{IsStrictlyIncreasing}
use Rattle.lk_axioms.specs.Lists.{IsUnion}
use Rattle.lk_axioms.proofs.Merging.{begins, least, ends}
use Rattle.lk_axioms.proofs.merge.merge.Goals.{then-x-y, else-x-y, then-both-test+else-j-ys, else-both-test}
use Rattle.lk_axioms.proofs.merge.merge.Goals as goal

pub both-init : goal.both-init
both-init c = record {
  i_within = omega arith;
  j_within = omega arith;
  merging = rw c.new-merged.ensures.items (begins c.args.xs.now c.args.ys.now c.requires.xs_rising c.requires.ys_rising);
}

pub both-preserved-then-y-x : goal.both-preserved-then-y-x
both-preserved-then-y-x c =
    let took : ((get_or c.args.xs.now c.both.i 0 ≤ get_or c.args.ys.now c.both.j 0) × (c.if-x-y.i ≡ c.both.i + 1)) ⊎ ((get_or c.args.ys.now c.both.j 0 < get_or c.args.xs.now c.both.i 0) × (c.if-x-y.i ≡ c.both.i)) =
    elim c.if-x-y.branch [ then-x-y w ↦ inl (w.if-x-y.true, w.i-is) | else-x-y w ↦ inr (w.if-x-y.false, w.i-is) ] in
    record {
      i_within = elim took [ inl t ↦ omega (arith, t.1, c.both-test.true) | inr t ↦ omega (arith, t.1, c.both-test.true) ];
      j_within = omega (arith, c.if-j-ys.true);
      merging = rw c.in_ok-push.ensures.items (least c.args.xs.now c.args.ys.now c.both.merged.items c.both.i c.both.j c.both-test.true c.if-j-ys.true c.both.invariant.merging
          c.min.result c.if-x-y.i (c.both.j + 1) c.min.ensures took (inl (c.if-y-x.true, refl)));
    }

pub both-preserved : goal.both-preserved
both-preserved c =
    let took : ((get_or c.args.xs.now c.both.i 0 ≤ get_or c.args.ys.now c.both.j 0) × (c.if-x-y.i ≡ c.both.i + 1)) ⊎ ((get_or c.args.ys.now c.both.j 0 < get_or c.args.xs.now c.both.i 0) × (c.if-x-y.i ≡ c.both.i)) =
    elim c.if-x-y.branch [ then-x-y w ↦ inl (w.if-x-y.true, w.i-is) | else-x-y w ↦ inr (w.if-x-y.false, w.i-is) ] in
    record {
      i_within = elim took [ inl t ↦ omega (arith, t.1, c.both-test.true) | inr t ↦ omega (arith, t.1, c.both-test.true) ];
      j_within = omega (arith, c.if-j-ys.true);
      merging = rw c.in_ok-push.ensures.items (least c.args.xs.now c.args.ys.now c.both.merged.items c.both.i c.both.j c.both-test.true c.if-j-ys.true c.both.invariant.merging
          c.min.result c.if-x-y.i c.both.j c.min.ensures took (inr (c.if-y-x.false, refl)));
    }

pub returns-clause-rising : goal.returns-clause-rising
returns-clause-rising c =
    let is : c.extend_from_slice-2.new.self.items ≡ (c.both.merged.items ++ drop c.both.i c.args.xs.now) ++ drop c.both.j c.args.ys.now =
    cc (c.in_ok-extend_from_slice.ensures.items, c.in_ok-extend_from_slice-2.ensures.items, c.split_at.ensures.back, c.split_at-2.ensures.back) in
    let out : (length c.args.xs.now ≤ c.both.i) ⊎ (length c.args.ys.now ≤ c.both.j) =
    elim c.both-test.branch [ then-both-test+else-j-ys w ↦ inr w.if-j-ys.false | else-both-test w ↦ inl w.both-test.false ] in
    subst IsStrictlyIncreasing (sym is) (ends c.args.xs.now c.args.ys.now c.both.merged.items c.both.i c.both.j out c.both.invariant.merging).0

pub returns-clause-union : goal.returns-clause-union
returns-clause-union c =
    let is : c.extend_from_slice-2.new.self.items ≡ (c.both.merged.items ++ drop c.both.i c.args.xs.now) ++ drop c.both.j c.args.ys.now =
    cc (c.in_ok-extend_from_slice.ensures.items, c.in_ok-extend_from_slice-2.ensures.items, c.split_at.ensures.back, c.split_at-2.ensures.back) in
    let out : (length c.args.xs.now ≤ c.both.i) ⊎ (length c.args.ys.now ≤ c.both.j) =
    elim c.both-test.branch [ then-both-test+else-j-ys w ↦ inr w.if-j-ys.false | else-both-test w ↦ inl w.both-test.false ] in
    subst (IsUnion c.args.xs.now c.args.ys.now) (sym is) (ends c.args.xs.now c.args.ys.now c.both.merged.items c.both.i c.both.j out c.both.invariant.merging).1
