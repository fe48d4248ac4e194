use Rattle.std.proofs.Common.{◌≡◌, Some, None, sym, ◌∙◌}
use Rattle.lk_traced.proofs.Closing.{open_ended, all_ended, ended_rising, all_declared}
use Rattle.lk_traced.proofs.file.closed.Goals as goal

pub returns-in-Some-clause-ended : goal.returns-in-Some-clause-ended
returns-in-Some-clause-ended c = λ k s b h.
    open_ended c.args.sections k s b c.in-Some.begun (sym c.begun_and_ended-begun.ensures.begun ∙ c.in-Some.is) h

pub returns-in-None-clause-ended : goal.returns-in-None-clause-ended
returns-in-None-clause-ended c = λ k s b h.
    rw c.begun_and_ended-begun.ensures.ended (all_ended c.args.sections k s b (sym c.begun_and_ended-begun.ensures.begun ∙ c.in-None.is) h)

pub returns-in-None-clause-known : goal.returns-in-None-clause-known
returns-in-None-clause-known c = λ k h. rw c.begun_and_ended-begun.ensures.ended h.ended_in

pub returns-in-None-clause-rising : goal.returns-in-None-clause-rising
returns-in-None-clause-rising c = λ k h.
    rw c.begun_and_ended-begun.ensures.ended (ended_rising c.args.sections k h (sym c.begun_and_ended-begun.ensures.begun ∙ c.in-None.is))

pub returns-in-None-clause-declared : goal.returns-in-None-clause-declared
returns-in-None-clause-declared c = λ k s b e h hb is.
    rw c.begun_and_ended-begun.ensures.ended (all_declared c.args.sections k s b e h (sym c.begun_and_ended-begun.ensures.begun ∙ c.in-None.is) hb is)
