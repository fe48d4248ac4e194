use Rattle.std.proofs.Common.{rules, ◌≡◌, [], refl, ap, ◌∙◌}
use Rattle.std.proofs.lemmas.Result.{err_from_is_err_and}
use Rattle.lk_engine.specs.declared.answering.Frame.{Frame}
use Rattle.lk_engine.proofs.Sheets.{any_known}
use Rattle.lk_engine.proofs.Frames.{entries_steady}
use Rattle.lk_engine.proofs.Kept.{entries_more}
use Rattle.lk_engine.proofs.Links.{linked_begins, linked_asks, linked_left, linked_true, linked_ends, linked_resumes, linked_refused, linked_again, linked_stops, top_known}
use Rattle.lk_engine.proofs.Lookouts.{place_stays, entries_there, entries_back, stays_on, metered_stays, step_stays, halts, not_spent, has_memory}
use Rattle.lk_engine.proofs.answering.work.Goals as goal

pub returns-in_err-next : goal.returns-in_err-next
returns-in_err-next g c =
    let h = rw c.in_err-next.was at c.first_step.ensures.opens in
    let p = err_from_is_err_and c.from_residual.result c.from_residual.ensures.1 in
    rw (p.1, p.2) (halts h.stays (entries_steady h.stays.keeps _ _ _ c.requires.entries)
    h.err (λ l. has_memory c.first_step.result _ c.in_err-next.was
    (c.first_step.ensures.nothing_left l)))

pub work-init : goal.work-init
work-init g c =
    let h = rw c.in_ok-next.was at c.first_step.ensures.opens in
    record {
      stays = h.stays;
      entries = entries_steady h.stays.keeps _ _ _ c.requires.entries;
      linked =
          let none : c.clear.new.self.items ≡ [] = search rules in
          rw (none, c.left-budget.ensures)
          (linked_begins _ _ _ h.stays.keeps c.requires.query_in h.known h.runs h.waits);
    }

pub open-requires-clause-entries : goal.open-requires-clause-entries
open-requires-clause-entries g c = entries_there c.work.invariant.stays c.work.invariant.entries

pub returns-in_err-deeper-in-Ask : goal.returns-in_err-deeper-in-Ask
returns-in_err-deeper-in-Ask g c =
    let place = place_stays c.work.invariant.stays in
    let h = rw c.in_err-deeper-in-Ask.was at c.«open».ensures.opens in
    let p = err_from_is_err_and c.from_residual-in_err-deeper-in-Ask.result
    c.from_residual-in_err-deeper-in-Ask.ensures.1 in
    rw (p.1, p.2) (halts (stays_on c.work.invariant.stays h.stays)
    (entries_back c.work.invariant.stays c.«open».ensures.entries)
    (linked_stops c.work.invariant.linked _ c.in-Ask.is (rw place at h.err))
    (λ l same. absurd (not_spent c.first_step.result _ c.in_ok-next.was
    (c.first_step.ensures.nothing_left l))))

pub returns-then-is_err : goal.returns-then-is_err
returns-then-is_err g c =
    let place = place_stays c.work.invariant.stays in
    let h = rw c.in_ok-deeper-in-Ask.was at c.«open».ensures.opens in
    halts (stays_on c.work.invariant.stays h.stays) (entries_back c.work.invariant.stays c.«open».ensures.entries) tt
    (λ l same. absurd (not_spent c.first_step.result _ c.in_ok-next.was
    (c.first_step.ensures.nothing_left l)))

pub returns-in_err-due-in-Ask-2 : goal.returns-in_err-due-in-Ask-2
returns-in_err-due-in-Ask-2 g c =
    let place = place_stays c.work.invariant.stays in
    let h = rw c.in_ok-deeper-in-Ask.was at c.«open».ensures.opens in
    let again = rw (c.in_err-due-in-Ask-2.was, c.deref.ensures.value) at c.look.ensures.again in
    let asked = linked_asks c.work.invariant.linked {stack' = c.push.new.self.items} c.in-Ask.is
    (search rules) h.stays.keeps h.known (rw place at h.runs) (rw place at h.waits) in
    let p = err_from_is_err_and c.from_residual-in_err-due-in-Ask-2.result
    c.from_residual-in_err-due-in-Ask-2.ensures.1 in
    rw (p.1, p.2, again.0) (halts (stays_on c.work.invariant.stays h.stays)
    (entries_back c.work.invariant.stays c.«open».ensures.entries) (linked_again asked again.1)
    (λ l same. absurd (not_spent c.first_step.result _ c.in_ok-next.was
    (c.first_step.ensures.nothing_left l))))

pub work-preserved-in-Ask-2 : goal.work-preserved-in-Ask-2
work-preserved-in-Ask-2 g c =
    let place = place_stays c.work.invariant.stays in
    let h = rw c.in_ok-deeper-in-Ask.was at c.«open».ensures.opens in
    record {
      stays = stays_on c.work.invariant.stays h.stays;
      entries = entries_back c.work.invariant.stays c.«open».ensures.entries;
      linked = rw (c.left-before.ensures, ← c.in-Ask-2.is)
          (linked_asks c.work.invariant.linked c.in-Ask.is (search rules) h.stays.keeps h.known
          (rw place at h.runs) (rw place at h.waits));
    }

pub resume-requires-clause-sheet_in : goal.resume-requires-clause-sheet_in
resume-requires-clause-sheet_in g c =
    let h = rw c.in_ok-deeper-in-Ask.was at c.«open».ensures.opens in
    rw c.note_before.ensures.stays.terms (any_known h.stays.keeps c.in-Ask.sheet
    (rw c.in-Ask.is at c.work.invariant.linked.known).1)

pub returns-in_err-next-in-Done-2 : goal.returns-in_err-next-in-Done-2
returns-in_err-next-in-Done-2 g c =
    let place = place_stays c.work.invariant.stays in
    let h = rw c.in_ok-deeper-in-Ask.was at c.«open».ensures.opens in
    let stays = stays_on {new = c.resume.new.looks} (metered_stays c.note_before.ensures.stays)
    (step_stays c.resume.ensures) in
    let p = err_from_is_err_and c.from_residual-in_err-next-in-Done-2.result
    c.from_residual-in_err-next-in-Done-2.ensures.1 in
    rw (p.1, p.2) (halts
    (stays_on {new = c.resume.new.looks} (stays_on c.work.invariant.stays h.stays) stays)
    (entries_steady stays.keeps _ _ _ (entries_back c.work.invariant.stays c.«open».ensures.entries))
    tt
    (λ l same. absurd (not_spent c.first_step.result _ c.in_ok-next.was
    (c.first_step.ensures.nothing_left l))))

pub work-preserved-in-Done-2 : goal.work-preserved-in-Done-2
work-preserved-in-Done-2 g c =
    let place = place_stays c.work.invariant.stays in
    let h = rw (c.in_ok-deeper-in-Ask.was, c.in-Done-2.is) at c.«open».ensures.opens in
    let waits : Frame = record {
      asker = c.work.asked;
      budget = c.work.budget;
      sheet = c.in-Ask.sheet;
      last = c.work.lookout.meter.last;
    } in
    let asked = linked_asks c.work.invariant.linked c.in-Ask.is refl h.stays.keeps h.known
    (rw place at h.runs) (rw place at h.waits) in
    let note = c.note_before.ensures in
    let stays = stays_on {new = c.resume.new.looks} (metered_stays note.stays)
    (step_stays c.resume.ensures) in
    let all = stays_on c.work.invariant.stays h.stays in
    let there = place_stays (stays_on all (metered_stays note.stays)) in
    let k = rw c.in_ok-next-in-Done-2.was at c.resume.ensures in
    let left : c.resume.new.looks.meter.left ≡ c.«open».new.lookout.meter.left = ap (λ b. b.left)
    c.resume.ensures.stays ∙ note.left in
    record {
      stays = stays_on {new = c.resume.new.looks} all stays;
      entries = entries_steady stays.keeps _ _ _ (entries_back c.work.invariant.stays c.«open».ensures.entries);
      linked = rw left (linked_resumes asked c.work.stack.frames.items waits refl refl
          (rw c.last-last.ensures at note.last) stays.keeps k.known
          (rw (there, note.stays.terms) at k.steps));
    }

pub returns-in-No-2 : goal.returns-in-No-2
returns-in-No-2 g c =
    let place = place_stays c.work.invariant.stays in
    let h = rw (c.in_ok-deeper-in-Ask.was, c.in-No-2.is) at c.«open».ensures.opens in
    let after = c.«open».new.lookout.meter in
    let asked = linked_asks c.work.invariant.linked {left' = after.left} {last' = after.last}
    c.in-Ask.is refl h.stays.keeps h.known (rw place at h.runs) (rw place at h.waits) in
    halts (stays_on c.work.invariant.stays h.stays) (entries_back c.work.invariant.stays c.«open».ensures.entries)
    (linked_refused asked refl)
    (λ l same. absurd (not_spent c.first_step.result _ c.in_ok-next.was
    (c.first_step.ensures.nothing_left l)))

pub keep-requires : goal.keep-requires
keep-requires g c = linked_left c.work.invariant.linked c.in-Done.is

pub returns-in-None : goal.returns-in-None
returns-in-None g c =
    let ends = linked_ends c.work.invariant.linked c.in-Done.is (search rules) in
    record {
      stays = c.work.invariant.stays;
      entries_true = entries_more _ _ _ _ _ _ _ c.work.invariant.entries c.keep.ensures
          (linked_true c.work.invariant.linked c.in-Done.is);
      known = ends.0;
      outcome = ends.1;
      nothing_left = λ l same. absurd (cc);
    }

pub resume-requires-in-Some-clause-sheet_in : goal.resume-requires-in-Some-clause-sheet_in
resume-requires-in-Some-clause-sheet_in g c = rw c.note_before-in-Some.ensures.stays.terms
    ((top_known c.work.invariant.linked c.pop.new.self.items c.in-Some.frame (search rules)).sheet)

pub returns-in_err-next-in-Some : goal.returns-in_err-next-in-Some
returns-in_err-next-in-Some g c =
    let stays = stays_on {new = c.resume-in-Some.new.looks} (metered_stays c.note_before-in-Some.ensures.stays)
    (step_stays c.resume-in-Some.ensures) in
    let p = err_from_is_err_and c.from_residual-in_err-next-in-Some.result
    c.from_residual-in_err-next-in-Some.ensures.1 in
    rw (p.1, p.2) (halts (stays_on {new = c.resume-in-Some.new.looks} c.work.invariant.stays stays)
    (entries_steady stays.keeps _ _ _
    (entries_more _ _ _ _ _ _ _ c.work.invariant.entries c.keep.ensures
    (linked_true c.work.invariant.linked c.in-Done.is)))
    tt
    (λ l same. absurd (not_spent c.first_step.result _ c.in_ok-next.was
    (c.first_step.ensures.nothing_left l))))

pub work-preserved : goal.work-preserved
work-preserved g c =
    let note = c.note_before-in-Some.ensures in
    let stays = stays_on {new = c.resume-in-Some.new.looks} (metered_stays note.stays)
    (step_stays c.resume-in-Some.ensures) in
    let place = place_stays (stays_on c.work.invariant.stays (metered_stays note.stays)) in
    let h = rw c.in_ok-next-in-Some.was at c.resume-in-Some.ensures in
    let left : c.resume-in-Some.new.looks.meter.left ≡ c.work.lookout.meter.left = ap (λ b. b.left)
    c.resume-in-Some.ensures.stays ∙ note.left in
    record {
      stays = stays_on {new = c.resume-in-Some.new.looks} c.work.invariant.stays stays;
      entries = entries_steady stays.keeps _ _ _
          (entries_more _ _ _ _ _ _ _ c.work.invariant.entries c.keep.ensures
          (linked_true c.work.invariant.linked c.in-Done.is));
      linked = rw left (linked_resumes c.work.invariant.linked c.pop.new.self.items c.in-Some.frame
          c.in-Done.is (search rules) note.last stays.keeps h.known
          (rw (place, note.stays.terms) at h.steps));
    }

pub returns-in-No : goal.returns-in-No
returns-in-No g c =
    halts c.work.invariant.stays c.work.invariant.entries
    (linked_refused c.work.invariant.linked c.in-No.is)
    (λ l same. absurd (not_spent c.first_step.result _ c.in_ok-next.was
    (c.first_step.ensures.nothing_left l)))
