use Rattle.std.proofs.Common.{map}
use Rattle.lk_env.specs.Units.{library_of}
use Rattle.lk_verdict.specs.Held.{verdict}
use Rattle.leancheck.proofs.Unjudged.{unjudged}
use Rattle.leancheck.proofs.extent.judged_text.Goals as goal

pub returns-in-None-clause-judged : goal.returns-in-None-clause-judged
returns-in-None-clause-judged c =
    unjudged c.text_of.result (λ t. t.now) c.args.allowed (library_of c.args.library.now)
    (map verdict c.args.verdicts.now.items) c.in-None.is
