use Rattle.std.proofs.Common.{◌≡◌, ◌∙◌, Ok, Err, map, refl, ap, sym, subst}
use Rattle.lk_env.specs.Units.{library_of}
use Rattle.lk_verdict.specs.Held.{verdict}
use Rattle.lk_verdict.specs.Checked.{AreChecked}
use Rattle.lk_recheck.specs.Rounds.{ArePlain, Kept}
use Rattle.lk_recheck.specs.Plans.{IsAnswered}
use Rattle.lk_recheck.proofs.Plans.{plain_put}
use Rattle.lk_recheck.proofs.recheck.Recheck.check.Goals as goal

pub invariant_of-self : goal.invariant_of-self
invariant_of-self g c =
    let us = library_of c.self.inside.library in
    let answers = map verdict c.in-Ok.answers.items in
    let budget : g.C.Checks.budget_of c.args.checks.now ≡ c.self.inside.budget = c.requires.budget ∙ ap (λ (k : Kept). k.budget) (sym c.self.view_is) in
    let checked = subst (λ b. AreChecked us b c.args.numbers.now answers) budget c.in-Ok.ensures.checked in
    let put = rw c.deref.ensures.value at c.put_verdicts.ensures in (
      record {
        spelled = c.self.invariant.0.spelled;
        plain = plain_put us c.self.inside.budget c.args.numbers.now answers (map verdict c.self.inside.verdicts.items) (map verdict c.put_verdicts.new.verdicts.items)
            c.self.invariant.0.plain checked put;
      },
      c.self.invariant.1,
    )

pub returns-in-Ok-clause-plain : goal.returns-in-Ok-clause-plain
returns-in-Ok-clause-plain g c =
    let us = library_of c.self.inside.library in
    let answers = map verdict c.in-Ok.answers.items in
    let budget : g.C.Checks.budget_of c.args.checks.now ≡ c.self.inside.budget = c.requires.budget ∙ ap (λ (k : Kept). k.budget) (sym c.self.view_is) in
    let checked = subst (λ b. AreChecked us b c.args.numbers.now answers) budget c.in-Ok.ensures.checked in
    let put = rw c.deref.ensures.value at c.put_verdicts.ensures in
    plain_put us c.self.inside.budget c.args.numbers.now answers (map verdict c.self.inside.verdicts.items) (map verdict c.put_verdicts.new.verdicts.items) c.self.invariant.0.plain checked put

pub returns-in-Err-clause-plain : goal.returns-in-Err-clause-plain
returns-in-Err-clause-plain g c = subst (λ (k : Kept). ArePlain (library_of k.library) k.budget k.verdicts) c.self.view_is c.self.invariant.0.plain

pub returns-in-Ok-clause-answered : goal.returns-in-Ok-clause-answered
returns-in-Ok-clause-answered g c =
    subst (λ (k : Kept). IsAnswered (g.C.Checks.may_answer c.args.checks.now k.library) c.args.numbers.now k.verdicts (map verdict c.put_verdicts.new.verdicts.items)) c.self.view_is
    (record { answer = Ok c.in-Ok.answers; may_come = c.in-Ok.ensures.answered; put = rw c.deref.ensures.value at c.put_verdicts.ensures })

pub returns-in-Err-clause-answered : goal.returns-in-Err-clause-answered
returns-in-Err-clause-answered g c = record {
  answer = Err c.in-Err.field-0;
  may_come = subst (λ (k : Kept). g.C.Checks.may_answer c.args.checks.now k.library c.args.numbers.now (Err c.in-Err.field-0)) c.self.view_is c.in-Err.ensures.answered;
  put = refl;
}
