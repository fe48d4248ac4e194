use Rattle.std.proofs.Common.{rules, sym, subst}
use Rattle.lk_command.specs.Words.{texts_of, Means}
use Rattle.lk_command.specs.declared.words.Meaning.TheVariants.{Trial}
use Rattle.leancheck.specs.Ends.{IsChecked}
use Rattle.leancheck.proofs.AllGood.{all_good}
use Rattle.leancheck.proofs.Sessions.{some_callers}
use Rattle.leancheck.proofs.run.run.Goals as goal

pub returns-in-Ok-Check-clause-all_yes : goal.returns-in-Ok-Check-clause-all_yes
returns-in-Ok-Check-clause-all_yes g c = λ ends o asked.
    all_good (texts_of c.args.words.now) c.in-Ok-Check.options o (g.S.Source.left c.args.source.now) (g.K.Sink.written c.args.sink.now) (g.K.Sink.written c.check.new.sink) c.check.result ends
    (subst (Means (texts_of c.args.words.now)) c.in-Ok-Check.field-0-is c.in-Ok-Check.ensures.means) asked (c.check.ensures.verdicts (subst IsChecked (sym ends) tt))

pub returns-in-Ok-Trial-clause-verdicts : goal.returns-in-Ok-Trial-clause-verdicts
returns-in-Ok-Trial-clause-verdicts g c = λ done. (
  Trial c.in-Ok-Trial.sample c.in-Ok-Trial.options,
  subst (Means (texts_of c.args.words.now)) c.in-Ok-Trial.field-0-is c.in-Ok-Trial.ensures.means,
  c.trial.ensures.verdicts (c.trial.ensures.ends done),
)

pub session-requires : goal.session-requires
session-requires g c =
    let some = some_callers (texts_of c.args.words.now) c.in-Ok-Session.callers (subst (Means (texts_of c.args.words.now)) c.in-Ok-Session.field-0-is c.in-Ok-Session.ensures.means) in
    search rules
