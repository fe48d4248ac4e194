use Rattle.std.proofs.Common.{rules, ◌≡◌, List, map, sym, subst, replicate}
use Rattle.lk_verdict.specs.Held.{verdict}
use Rattle.lk_verdict.specs.declared.verdict.Verdict.{Verdict as HeldVerdict}
use Rattle.lk_verdict.specs.declared.verdict.Verdict.TheVariants.{Memory}
use Rattle.lk_session.specs.Texts.{units_of}
use Rattle.lk_session.specs.Answers.{AreFrom}
use Rattle.lk_session.proofs.Verdicts.{unanswered_from}
use Rattle.lk_callers.specs.Answered.{IsRight}
use Rattle.lk_callers.proofs.verdicts.verdicts_by.Goals as goal

pub loop-reply-init : goal.loop-reply-init
loop-reply-init c =
    let items : c.resize.new.self.items ≡ replicate c.args.count Memory = search rules in
    record {
      count = search rules;
      each = λ stated budget list right. subst (λ (vs : List HeldVerdict). AreFrom (units_of stated list) budget 0 (map verdict vs)) (sym items) (unanswered_from (units_of stated list) budget 0 c.args.count);
    }

pub loop-reply-preserved : goal.loop-reply-preserved
loop-reply-preserved c = record {
  count = search rules;
  each = λ stated budget list right. c.fill.ensures.each stated budget list
      (subst (IsRight stated budget list) (sym c.reply-item.is) (right c.loop-reply.reply-index c.reply-item.result c.loop-reply-test.true))
      (c.loop-reply.invariant.each stated budget list right);
}
