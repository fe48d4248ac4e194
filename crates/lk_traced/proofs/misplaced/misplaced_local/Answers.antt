use Rattle.lk_units.specs.State.{State, counted}
use Rattle.lk_units.proofs.Lines.{fails_then}
use Rattle.lk_traced.proofs.Refusing.{follows_misplaced, fails_misplaced}
use Rattle.lk_traced.proofs.misplaced.misplaced_local.Goals as goal

pub returns-in-Ok-clause-fails : goal.returns-in-Ok-clause-fails
returns-in-Ok-clause-fails g c = λ s h.
    let f = c.in-Ok.ensures.follows s h in
    let store = g.T.Terms.contents c.local_line.new.store in
    rw f.1 (follows_misplaced State c.counts.new.self store c.counts.result (counted f.0) c.misplaced.result (c.counts.ensures.follows store f.0 f.2) c.misplaced.ensures.ok c.misplaced.ensures.err)

pub returns-in-Err-clause-fails : goal.returns-in-Err-clause-fails
returns-in-Err-clause-fails g c = λ s h.
    fails_misplaced State c.in-Err.error _ (fails_then c.in-Err.error _ (λ t. counted t) (c.in-Err.ensures.follows s h))
