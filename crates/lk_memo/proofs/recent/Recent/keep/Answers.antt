use Rattle.std.proofs.Common.{◌<◌, length, ap, ◌∙◌, arith}
use Rattle.lk_memo.specs.Slots.{slot_of}
use Rattle.lk_memo.proofs.Slots.{kept_there, others}
use Rattle.lk_memo.proofs.recent.Recent.keep.Goals as goal

pub returns-then-i-len-clause-kept : goal.returns-then-i-len-clause-kept
returns-then-i-len-clause-kept c some =
    let within : c.slot_of-i.result < length c.self.inside.slots.items =
    omega (arith, c.if-i-len.true, c.len-2.ensures) in
    kept_there c.self.inside.slots.items c.self.inside.era c.args.key c.args.kept c.slot_of-i.result
    (c.slot_of-i.ensures.value ∙ ap (slot_of c.args.key) (c.len.ensures ∙ c.self.inside.slots.ok.0)) within

pub returns-then-i-len-clause-others : goal.returns-then-i-len-clause-others
returns-then-i-len-clause-others c =
    let within : c.slot_of-i.result < length c.self.inside.slots.items =
    omega (arith, c.if-i-len.true, c.len-2.ensures) in
    rw (← c.self.view_is)
    (others c.self.inside.slots.items c.self.inside.era c.args.key c.args.kept c.slot_of-i.result
    (c.slot_of-i.ensures.value ∙ ap (slot_of c.args.key) (c.len.ensures ∙ c.self.inside.slots.ok.0)) within)

pub returns-else-i-len-clause-kept : goal.returns-else-i-len-clause-kept
returns-else-i-len-clause-kept c = rw (← c.self.view_is) (λ l.
    let some : 0 < c.len.result = omega (arith, l, c.len.ensures) in
    absurd (omega (
      arith,
      c.slot_of-i.ensures.within some,
      c.if-i-len.false,
      c.len.ensures,
      c.len-2.ensures,
    )))
