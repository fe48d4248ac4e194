use Rattle.leancheck.proofs.Joined.{joined}
use Rattle.leancheck.proofs.run.checked.Goals as goal

pub returns-clause-gives : goal.returns-clause-gives
returns-clause-gives g c = λ bytes reads.
    joined c.args.extent c.args.options bytes c.args.library.now c.in-Ok.verdicts.items c.judged_text.new.verdicts.items c.deref.result.now c.in-Ok-judged_text.text.items c.status_of-status.result reads
    c.in-Ok.ensures c.in-Ok-judged_text.ensures.judged c.in-Ok-judged_text.ensures.text c.deref.ensures.value c.status_of-status.ensures.is
