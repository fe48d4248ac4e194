use Rattle.std.proofs.Common.{◌≡◌, nat_eq, true, false, arith}
use Rattle.std.proofs.lemmas.Bool.Decides.{nat_tests}
use Rattle.lk_op.proofs.Rounds.{euclid_more, euclid_ends, euclid_out}
use Rattle.lk_op.proofs.binary.gcd.Goals as goal

pub returns-then-smaller-eq0 : goal.returns-then-smaller-eq0
returns-then-smaller-eq0 c =
    let z : nat_eq c.divide.smaller 0 ≡ true = grind (arith, nat_tests, c.if-smaller-eq0.true) in
    euclid_ends c.divide.rounds c.divide.greater c.divide.smaller _ z c.divide.invariant.same

pub divide-preserved : goal.divide-preserved
divide-preserved c =
    let z : nat_eq c.divide.smaller 0 ≡ false = grind (arith, nat_tests, c.if-smaller-eq0.false) in
    record { same = euclid_more c.divide.rounds c.divide.greater c.divide.smaller _ c.divide-test.true z c.divide.invariant.same }

pub returns : goal.returns
returns c =
    let z : c.divide.rounds ≡ 0 = omega (arith, c.divide-test.false) in
    euclid_out c.divide.rounds c.divide.greater c.divide.smaller _ z c.divide.invariant.same
