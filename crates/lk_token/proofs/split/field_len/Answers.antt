use Rattle.std.proofs.Common.{◌==◌, refl, sym, arith}
use Rattle.std.proofs.lemmas.List.Sums.{position_or_len_is}
use Rattle.lk_token.proofs.split.field_len.Goals as goal

pub returns-then-bytes-len-eq32-clause-value : goal.returns-then-bytes-len-eq32-clause-value
returns-then-bytes-len-eq32-clause-value c = sym (position_or_len_is (λ b. b == 32) c.args.bytes.now c.loop-len.len 0 c.loop-len.invariant.0 c.loop-len.invariant.1 (λ lt. rw c.if-bytes-len-eq32.true refl))

pub returns-clause-value : goal.returns-clause-value
returns-clause-value c = sym (position_or_len_is (λ b. b == 32) c.args.bytes.now c.loop-len.len 0 c.loop-len.invariant.0 c.loop-len.invariant.1 (λ lt. absurd (let at = c.loop-len-test.false in omega arith)))
