use Rattle.lk_units.specs.State.{State}
use Rattle.lk_members.specs.Plain.{said_at}
use Rattle.lk_traced.proofs.Refusing.{follows_misplaced}
use Rattle.lk_traced.proofs.Followed.{placed_refused, stated_refused}
use Rattle.lk_traced.proofs.behind.refused.Goals as goal

pub returns-in-Ok : goal.returns-in-Ok
returns-in-Ok g c = λ s h.
    let store = g.T.Terms.contents c.args.store.now in
    placed_refused s c.args.number c.args.declaration.now (said_at store c.in-Ok.said) c.misplaced.result (c.in-Ok.ensures.made store s h)
    (follows_misplaced State c.place.new.self store c.place.result _ c.misplaced.result (c.place.ensures.follows s h) c.misplaced.ensures.ok c.misplaced.ensures.err)

pub returns-in-Err : goal.returns-in-Err
returns-in-Err g c = λ s h. stated_refused s c.args.declaration.now c.in-Err.error (c.in-Err.ensures.made (g.T.Terms.contents c.args.store.now) s h)
