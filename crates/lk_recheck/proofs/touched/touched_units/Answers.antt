use Rattle.std.proofs.Common.{subst, sym}
use Rattle.std.specs.Prelude.{All, Bool, Vec}
use Rattle.std.specs.declared.alloc.Global.{Global}
use Rattle.lk_store.specs.Store.{contents_of}
use Rattle.lk_env.specs.Units.{library_at}
use Rattle.lk_needs.specs.Builtins.{AreBuiltins}
use Rattle.lk_needs.specs.Marks.{IsThing}
use Rattle.lk_needs.specs.Leads.{room_at}
use Rattle.lk_needs.proofs.Listed.{if_ok}
use Rattle.lk_recheck.specs.Stale.{MarksTouched}
use Rattle.lk_recheck.specs.Counts.{room_by}
use Rattle.lk_recheck.specs.Built.{stored_at}
use Rattle.lk_recheck.specs.Hits.{TellHits}
use Rattle.lk_recheck.proofs.Telling.{marks_touched, builtins_in, told_at}
use Rattle.lk_recheck.proofs.touched.touched_units.Goals as goal

pub mark_units-requires-clause-things_in : goal.mark_units-requires-clause-things_in
mark_units-requires-clause-things_in c =
    let l = stored_at c.args.base.now c.args.units.now in
    let listed = subst (AreBuiltins (contents_of c.args.base.now)) (sym c.deref.ensures.value) c.requires.links.builtins in
    subst (λ r. All (IsThing r) c.deref.result.now) (sym c.in_ok-counts.ensures.room) (builtins_in l c.deref.result.now listed)

pub returns : goal.returns
returns c =
    let l = stored_at c.args.base.now c.args.units.now in
    let t = c.in_ok-sources.sources in
    let ts = c.deref.result.now in
    let r = room_by c.in_ok-counts.counts in
    let changed = c.args.changed.now in
    let listed = subst (AreBuiltins (contents_of c.args.base.now)) (sym c.deref.ensures.value) c.requires.links.builtins in
    if_ok (λ (marks : Vec Bool Global). TellHits r t changed ts c.in_ok-counts.counts.units marks.items) (λ (marks : Vec Bool Global). MarksTouched (library_at (contents_of c.args.base.now) c.args.units.now) changed marks.items) c.mark_units.result
    (λ marks h. marks_touched l t changed marks.items ts c.in_ok-sources.ensures c.requires.units_in listed (told_at r (room_at l) t changed marks.items ts c.in_ok-counts.ensures.room h)) c.mark_units.ensures
