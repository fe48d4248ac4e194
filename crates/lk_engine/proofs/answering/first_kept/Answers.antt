use Rattle.lk_engine.proofs.Frames.{entries_steady}
use Rattle.lk_engine.proofs.Kept.{entries_more}
use Rattle.lk_engine.proofs.Links.{linked_begins, linked_true}
use Rattle.lk_engine.proofs.answering.first_kept.Goals as goal
use Rattle.lk_engine.proofs.answering.first_kept.Goals.{in-Done+then-is_at_levels, in-Done+else-is_at_levels, in_default}

pub returns-in_err-next-clause-entries : goal.returns-in_err-next-clause-entries
returns-in_err-next-clause-entries g c =
    let h = rw c.in_err-next.was at c.first_step.ensures.opens in
    entries_steady h.stays.keeps _ _ _ c.pay_if_deep-deep.ensures

pub returns-clause-entries : goal.returns-clause-entries
returns-clause-entries g c =
    let h = rw c.in_ok-next.was at c.first_step.ensures.opens in
    let before = entries_steady h.stays.keeps _ _ _ c.pay_if_deep-deep.ensures in
    elim c.match-next.branch [
      | in-Done+then-is_at_levels w ↦
          let begun = linked_begins _ _ _ h.stays.keeps c.requires.query_in h.known h.runs h.waits in
          rw w.memo-is (entries_more _ _ _ _ _ _ _ before w.keep.ensures
          (rw c.left-budget.ensures (linked_true begun w.in-Done.is)))
      | in-Done+else-is_at_levels w ↦ rw w.memo-is before
      | in_default w ↦ rw w.memo-is before
    ]
