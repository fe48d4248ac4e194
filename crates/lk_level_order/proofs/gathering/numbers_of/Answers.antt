use Rattle.std.proofs.Common.{rules, ◌≡◌, ◌++◌, ◌∷◌, [], ◌<◌, length, ap, arith}
use Rattle.lk_level_order.specs.declared.parameters.Parameter.{Parameter}
use Rattle.lk_level_order.proofs.Ordered.{number_more}
use Rattle.lk_level_order.proofs.gathering.numbers_of.Goals as goal

pub loop-i-preserved : goal.loop-i-preserved
loop-i-preserved c =
    let few = c.loop-i-test.true in
    let is = c.len-i-end.ensures.len in
    let below : c.loop-i.i < length c.args.names.now = omega arith in
    let none : Parameter = record { name = 0 } in
    let pushed : c.push.new.self.items ≡ c.loop-i.numbers.items ++ c.get.result.now.name ∷ [] = search rules in
    rw pushed (number_more c.loop-i.numbers.items c.get.result.now.name c.args.names.now c.loop-i.i none below c.loop-i.invariant (ap (λ (p : Parameter). p.name) (c.get.ensures none)))
