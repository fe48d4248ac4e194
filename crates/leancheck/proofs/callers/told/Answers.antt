use Rattle.std.proofs.Common.{◌≡◌, ◌∙◌, refl, ap, inl, inr, List, map}
use Rattle.lk_verdict.specs.declared.verdict.Verdict.{Verdict as HeldVerdict}
use Rattle.lk_verdict.specs.Held.{verdict}
use Rattle.lk_callers.specs.Owned.{bytes_in}
use Rattle.leancheck.specs.Ends.{status_of}
use Rattle.leancheck.proofs.Sessions.{texts_told}
use Rattle.leancheck.proofs.callers.told.Goals as goal

pub returns-in-Ok-clause-gives : goal.returns-in-Ok-clause-gives
returns-in-Ok-clause-gives g c = λ bytes reads. record {
  texts = bytes_in c.args.texts.now;
  spelled = reads;
  told = inr (texts_told (bytes_in c.args.texts.now) c.args.callers.workers c.args.callers.steps c.status_of-status.result c.in-Ok.field-0 c.requires.faultless c.in-Ok.ensures.ok c.in-Ok.ensures.few
      (c.status_of-status.ensures.is ∙ ap (λ (vs : List HeldVerdict). status_of (map verdict vs)) c.deref.ensures.value));
}
