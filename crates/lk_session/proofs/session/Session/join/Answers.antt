use Rattle.std.proofs.Common.{subst}
use mathlib.Core.List.{IsPrefix}
use Rattle.lk_session.specs.Reading.{PassState}
use Rattle.lk_session.proofs.Reading.{read_of_either}
use Rattle.lk_session.proofs.session.Session.join.Goals as goal

pub invariant_of-pass : goal.invariant_of-pass
invariant_of-pass g c =
    read_of_either g.T.Reads.stated c.pass.inside.caller.seen c.other.inside.caller.seen c.join_callers.new.caller.seen c.pass.inside.reader c.other.inside.reader c.keep_longer.new.self c.join_callers.ensures.order.0 c.join_callers.ensures.order.1
    c.pass.invariant c.other.invariant c.keep_longer.ensures.one

pub returns-clause-order : goal.returns-clause-order
returns-clause-order g c = (
  subst (λ (p : PassState). IsPrefix p.known.seen c.join_callers.new.caller.seen) c.pass.view_is c.join_callers.ensures.order.0,
  subst (λ (p : PassState). IsPrefix p.known.seen c.join_callers.new.caller.seen) c.other.view_is c.join_callers.ensures.order.1,
)
