use Rattle.std.proofs.Common.{subst}
use Rattle.leancheck.specs.declared.extent.Extent.TheVariants.{Summary}
use Rattle.leancheck.specs.Ends.{WritesPrefix}
use Rattle.leancheck.proofs.run.trial.Goals as goal

pub returns-clause-prefix : goal.returns-clause-prefix
returns-clause-prefix g c = λ failed.
    subst (λ bytes. WritesPrefix Summary c.args.options bytes (g.K.Sink.written c.args.sink.now) (g.K.Sink.written c.check.new.sink)) c.in-Ok.ensures (c.check.ensures.prefix failed)
