use Rattle.std.proofs.Common.{◌≡◌, true, false, refl, sym}
use Rattle.lk_recheck.proofs.Telling.{found_marked, none_marked, not_marked, all_unmarked}
use Rattle.lk_recheck.proofs.hitting.any_marked.Goals as goal

pub loop-thing-init : goal.loop-thing-init
loop-thing-init c = none_marked c.args.hits.now

pub returns-then-is_marked : goal.returns-then-is_marked
returns-then-is_marked c = (λ t. found_marked c.args.hits.now c.args.things.now c.loop-thing.thing-index _ c.loop-thing-test.true (sym c.if-is_marked.ensures), λ h. refl)

pub loop-thing-preserved : goal.loop-thing-preserved
loop-thing-preserved c = not_marked c.args.hits.now c.args.things.now c.loop-thing.thing-index _ c.loop-thing-test.true (sym c.if-is_marked.ensures) c.loop-thing.invariant

pub returns : goal.returns
returns c = let none = all_unmarked c.args.hits.now c.args.things.now c.loop-thing.thing-index c.loop-thing-test.false c.loop-thing.invariant in (λ t. let clash : false ≡ true = t in absurd cc, λ h. absurd (none h))
