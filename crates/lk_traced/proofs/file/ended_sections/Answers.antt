use Rattle.std.proofs.lemmas.List.Elements.{All-nil}
use Rattle.lk_traced.proofs.Closing.{none_ended}
use Rattle.lk_traced.proofs.file.ended_sections.Goals as goal

pub returns-in-Some-clause-ended : goal.returns-in-Some-clause-ended
returns-in-Some-clause-ended c = λ k s b h. c.closed.ensures.ended k s b (rw c.in-Some.is at h)

pub returns-in-Some-clause-known : goal.returns-in-Some-clause-known
returns-in-Some-clause-known c = λ k h. c.closed.ensures.known k (rw c.in-Some.is at h)

pub returns-in-Some-clause-rising : goal.returns-in-Some-clause-rising
returns-in-Some-clause-rising c = λ k h. c.closed.ensures.rising k (rw c.in-Some.is at h)

pub returns-in-Some-clause-declared : goal.returns-in-Some-clause-declared
returns-in-Some-clause-declared c = λ k s b e h hb is. c.closed.ensures.declared k s b e (rw c.in-Some.is at h) (rw c.in-Some.is at hb) is

pub returns-in-None-clause-ended : goal.returns-in-None-clause-ended
returns-in-None-clause-ended c = λ k s b h. rw c.new.ensures.items (none_ended k s b (rw c.in-None.is at h))

pub returns-in-None-clause-known : goal.returns-in-None-clause-known
returns-in-None-clause-known c = λ k h. rw c.new.ensures.items (All-nil _)

pub returns-in-None-clause-rising : goal.returns-in-None-clause-rising
returns-in-None-clause-rising c = λ k h. rw c.new.ensures.items tt

pub returns-in-None-clause-declared : goal.returns-in-None-clause-declared
returns-in-None-clause-declared c = λ k s b e h hb is. rw c.new.ensures.items (All-nil _)
