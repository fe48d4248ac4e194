use Rattle.lk_store.specs.Store.{contents_of}
use Rattle.lk_env.specs.Units.{library_at}
use Rattle.lk_recheck.proofs.Joined.{told_stale}
use Rattle.lk_recheck.proofs.stale.stale_units.Goals as goal

pub returns : goal.returns
returns c =
    let at = contents_of c.args.base.now in
    told_stale (λ v. v.items) c.set_in_either.result (library_at at c.args.old.now) (library_at at c.args.new.now)
    c.in_ok-changed.changed.items c.deref.result.now c.deref-2.result.now c.in_ok-before.before.items c.in_ok-after.after.items c.deref-3.result.now c.deref-4.result.now
    c.in_ok-changed.ensures c.deref.ensures.value c.deref-2.ensures.value c.in_ok-before.ensures c.in_ok-after.ensures c.deref-3.ensures.value c.deref-4.ensures.value c.set_in_either.ensures
