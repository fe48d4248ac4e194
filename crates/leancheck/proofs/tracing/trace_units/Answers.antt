use Rattle.std.proofs.Common.{ap, sym, subst, ◌∙◌}
use Rattle.std.specs.Prelude.{◌+◌}
use Rattle.lk_env.specs.Units.{library_of}
use Rattle.lk_book.specs.File.{export_at}
use Rattle.leancheck.specs.Drawn.{unit_budget}
use Rattle.leancheck.specs.Traces.{all_kept}
use Rattle.leancheck.specs.Derived.{AreTraced}
use Rattle.leancheck.proofs.SectionsBelow.{lacks_on}
use Rattle.leancheck.proofs.tracing.trace_units.Goals as goal

pub loop-n-preserved : goal.loop-n-preserved
loop-n-preserved g c =
    let l = c.args.library.now in
    let us = library_of l in
    let budget = unit_budget l c.args.steps in
    let ks = all_kept (export_at l) in
    let n = c.loop-n.n in
    let k = c.in_ok-checked.checked in
    let here = c.in_ok-checked.ensures.unit in
    let own = c.in_ok-checked.ensures.budget in
    let inv = c.loop-n.invariant in
    let before = subst (λ m. AreTraced us budget (g.D.Terms.contents c.loop-n.deriver.derives) ks m c.loop-n.trace) (sym here) inv.2 in
    let traced = c.in_ok-complete.ensures.written budget ks (sym (own ∙ ap budget (sym here))) before in (
      c.checked_unit.ensures.library ∙ inv.0,
      c.trace_unit.ensures.library,
      subst (λ m. AreTraced us budget (g.D.Terms.contents c.trace_unit.new.deriver.derives) ks (m + 1) c.trace_unit.new.trace) here traced,
      lacks_on us budget n k.unit k.budget c.loop-n.lacks c.in_ok-complete.complete c.lacks_by-lacks.result here own inv.3 c.in_ok-complete.ensures.complete c.lacks_by-lacks.ensures,
    )
