use Rattle.std.proofs.Common.{◌-◌, ◌≤◌, length, arith, refl}
use Rattle.std.proofs.lemmas.Option.{slice_get_read}
use Rattle.lk_env.proofs.Standing.{type_member, constructor_member, recursor_member}
use Rattle.lk_env.proofs.member.block_entry.Goals as goal

pub returns-then-member-types-clause-member : goal.returns-then-member-types-clause-member
returns-then-member-types-clause-member c = λ d.
    rw (← c.index-types-member.is)
    (type_member d c.args.block.now c.args.unit c.args.member c.index-types-member.result
    (rw (← c.as_slice-types.ensures.value)
    (slice_get_read c.as_slice-types.result.now _ c.args.member c.index-types-member.result refl c.if-member-types.true c.index-types-member.is)))

pub returns-in-Ok-clause-member : goal.returns-in-Ok-clause-member
returns-in-Ok-clause-member c = λ d.
    let within : length c.args.block.now.types.items ≤ c.args.member = rw c.as_slice-types.ensures.value at c.if-member-types.false in
    constructor_member d c.args.block.now (c.args.member - length c.args.block.now.types.items) c.args.member c.in-Ok.entry (omega (arith, within))
    (rw c.as_slice-types.ensures.value at c.in-Ok.ensures.found)

pub returns-in-Err-clause-member : goal.returns-in-Err-clause-member
returns-in-Err-clause-member c = λ d.
    let within : length c.args.block.now.types.items ≤ c.args.member = rw c.as_slice-types.ensures.value at c.if-member-types.false in
    recursor_member d c.args.block.now c.args.unit c.in-Err.rest (c.args.member - length c.args.block.now.types.items) c.args.member c.recursor_entry.result
    (rw c.as_slice-types.ensures.value at c.in-Err.ensures.past) (omega (arith, within)) (rw c.deref.ensures at (rw c.deref-in-Err.ensures.value at c.recursor_entry.ensures.entry))
