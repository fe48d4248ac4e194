use Rattle.std.proofs.Common.{rules, ◌≡◌, ◌++◌, ◌∷◌, [], arith}
use Rattle.std.proofs.lemmas.Grind.{common_steps}
use Rattle.lk_level_order.proofs.Valued.{next_value}
use Rattle.lk_level_order.proofs.values.evaluate.Goals as goal

pub loop-place-preserved : goal.loop-place-preserved
loop-place-preserved c =
    let old = c.loop-place.values.items in
    let pushed : c.push.new.self.items ≡ old ++ c.in_ok-value.value ∷ [] = search rules in
    let count = c.loop-place.invariant.count in
    let value = c.deref.ensures.value in
    record {
      count = rw pushed (grind (arith, common_steps));
      valued = λ d order few.
          rw pushed (next_value d c.args.parts.now c.args.assignment.now old c.loop-place.place c.in_ok-value.value c.get.result.now order (omega arith) count c.get.ensures
          (c.loop-place.invariant.valued d order few) (λ h. c.in_ok-value.ensures d order.different few (rw value h)));
    }
