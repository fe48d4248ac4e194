use Rattle.std.proofs.Common.{◌∙◌, map, ap, subst}
use Rattle.lk_store.specs.Store.{contents_of}
use Rattle.lk_env.specs.Units.{library_at, library_of}
use Rattle.lk_verdict.specs.Held.{verdict}
use Rattle.lk_recheck.specs.Plans.{IsPlan}
use Rattle.lk_recheck.specs.Rounds.{Kept}
use Rattle.lk_recheck.proofs.Plans.{plan_made}
use Rattle.lk_recheck.proofs.recheck.Recheck.plan.Goals as goal

pub returns-clause-plan : goal.returns-clause-plan
returns-clause-plan c =
    let l = c.self.inside.library in
    let units = c.args.units.now in
    let numbers = c.in_ok-plan.plan.numbers.items in
    let verdicts = map verdict c.in_ok-plan.plan.verdicts.items in
    subst (λ (k : Kept). IsPlan (library_of k.library) (library_at (contents_of k.library.tables) units) k.verdicts numbers verdicts) c.self.view_is
    (plan_made (library_of l) (library_at (contents_of l.tables) units) (map verdict c.self.inside.verdicts.items)
    (library_at (contents_of c.base-base.result.now) c.units.result.now) (library_at (contents_of c.base-base.result.now) units)
    (map verdict c.deref-2.result.now) c.in_ok-stale.stale.items c.deref.result.now numbers verdicts
    (ap (λ t. library_at (contents_of t) c.units.result.now) c.base-base.ensures ∙ ap (λ us. library_at (contents_of l.tables) us) c.units.ensures.value)
    (ap (λ t. library_at (contents_of t) units) c.base-base.ensures)
    (ap (map verdict) c.deref-2.ensures.value) c.deref.ensures.value c.self.invariant.0.plain.as_many c.in_ok-stale.ensures c.in_ok-plan.ensures.few c.in_ok-plan.ensures.plan)
