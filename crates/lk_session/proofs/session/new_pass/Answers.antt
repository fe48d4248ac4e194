use Rattle.lk_session.proofs.session.new_pass.Goals as goal

pub invariant_of-result : goal.invariant_of-result
invariant_of-result g c = c.new.ensures.read g.T.Reads.stated c.args.caller.seen
