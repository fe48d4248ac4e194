use Rattle.std.proofs.Common.{◌≡◌, true, false, arith}
use Rattle.std.specs.Prelude.{nat_lt}
use Rattle.std.proofs.lemmas.Bool.Decides.{nat_tests}
use Rattle.lk_op.proofs.Rounds.{halvings_more, halvings_end, halvings_out}
use Rattle.lk_op.proofs.unary.log2.Goals as goal

pub returns-then-left-lt2 : goal.returns-then-left-lt2
returns-then-left-lt2 c =
    let z : nat_lt c.halve.left 2 ≡ true = grind (arith, nat_tests, c.if-left-lt2.true) in
    halvings_end c.halve.rounds c.halve.left c.halve.count _ z c.halve.invariant.counted

pub halve-preserved : goal.halve-preserved
halve-preserved c =
    let z : nat_lt c.halve.left 2 ≡ false = grind (arith, nat_tests, c.if-left-lt2.false) in
    let few = c.halve.invariant.few in
    record { counted = halvings_more c.halve.rounds c.halve.left c.halve.count _ c.halve-test.true z c.halve.invariant.counted; few = omega (arith, few, c.halve-test.true) }

pub returns : goal.returns
returns c =
    let z : c.halve.rounds ≡ 0 = omega (arith, c.halve-test.false) in
    halvings_out c.halve.rounds c.halve.left c.halve.count _ z c.halve.invariant.counted
