use Rattle.std.proofs.Common.{sym, subst}
use Rattle.lk_desk.specs.Job.{Job}
use Rattle.lk_desk.specs.Truth.{AreTrue, entries_of}
use Rattle.lk_desk.proofs.Truths.{after_put}
use Rattle.lk_desk.proofs.shelf.leave_on.Goals as goal

pub give-requires-clause-true_entries : goal.give-requires-clause-true_entries
give-requires-clause-true_entries g c =
    let e = c.put-stored.ensures in
    subst (λ (j : Job). AreTrue j (entries_of c.put-stored.new.self)) (sym c.in-Some.ensures.job)
    (after_put (g.S.Shelf.job c.args.shelf.now) (entries_of c.in-Some.taken) (entries_of c.put-stored.new.self) c.args.key c.args.entry c.put-stored.result c.in-Some.ensures.some.0 c.requires.true_entry e.stored e.full e.refused)
