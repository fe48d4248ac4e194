use Rattle.std.proofs.Common.{List, length, map, sym, ap, ◌∙◌, subst, refl}
use Rattle.std.proofs.lemmas.List.{length-replicate}
use Rattle.lk_verdict.specs.declared.verdict.Verdict.{Verdict as HeldVerdict}
use Rattle.lk_verdict.specs.declared.verdict.Verdict.TheVariants.{Memory}
use Rattle.lk_verdict.specs.Held.{verdict}
use Rattle.lk_session.specs.Texts.{units_of}
use Rattle.lk_session.specs.Answers.{AreFrom}
use Rattle.lk_session.proofs.Verdicts.{unanswered_from}
use Rattle.lk_session.proofs.Submitting.{submitted}
use Rattle.lk_session.proofs.session.Session.submit.Goals as goal

pub answer-requires-clause-given : goal.answer-requires-clause-given
answer-requires-clause-given g c κs within =
    subst (λ (l : List HeldVerdict). AreFrom (units_of g.T.Reads.stated c.enter.new.pass.known.seen) (g.C.Checks.budget_of c.args.checks.now) c.in_ok-first.field-0.first (map verdict l)) (sym c.in_ok-verdicts.ensures)
    (unanswered_from (units_of g.T.Reads.stated c.enter.new.pass.known.seen) (g.C.Checks.budget_of c.args.checks.now) c.in_ok-first.field-0.first c.min.result)

pub returns-clause-ok : goal.returns-clause-ok
returns-clause-ok g c =
    submitted g.T.Reads.stated (g.C.Checks.budget_of c.args.checks.now) c.args.pass.now.read (record { tag = c.args.tag; text = c.in_ok-shared.shared; count = c.in_ok-count.count }) c.args.text.now c.args.pass.now.known c.enter.new.pass.known c.answer.new.self.known c.in_ok-first.field-0 (record { first = c.in_ok-first.field-0.first; verdicts = c.answer.new.verdicts }) c.min.result
    c.in_ok-first.ensures.ok c.in_ok-shared.ensures c.in_ok-count.ensures.count c.answer.ensures.known refl
    (c.answer.ensures.count ∙ (ap (λ (l : List HeldVerdict). length l) c.in_ok-verdicts.ensures ∙ length-replicate c.min.result Memory))
    c.min.ensures c.answer.ensures.each
