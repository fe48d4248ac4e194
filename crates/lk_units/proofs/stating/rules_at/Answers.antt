use Rattle.std.proofs.Common.{◌<◌, length}
use Rattle.std.proofs.lemmas.List.Elements.{All-rest}
use Rattle.lk_units.specs.Held.{rule_at_place}
use Rattle.lk_units.proofs.Several.{place_more}
use Rattle.lk_units.proofs.stating.rules_at.Goals as goal

pub loop-place-preserved : goal.loop-place-preserved
loop-place-preserved c = (
  place_more (rule_at_place c.args.rules.now) c.loop-place.found.items c.push.new.self.items c.loop-place.rest.now c.in-Some.more.now c.args.places.now c.in-Some.place.now c.in-Some.ensures.cases.0 c.in_ok-push.ensures.items
      c.loop-place.invariant.0,
  All-rest (λ i. i < length c.args.rules.now) c.in-Some.place.now c.in-Some.more.now c.loop-place.rest.now c.in-Some.ensures.cases.0 c.loop-place.invariant.1,
)
