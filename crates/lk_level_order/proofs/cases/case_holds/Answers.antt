use Rattle.std.proofs.Common.{sym, ◌∙◌, arith, ◌≤◌, length}
use Rattle.lk_level_order.proofs.Asked.{far_more, far_refuted, least_refuted, case_tested}
use Rattle.lk_level_order.proofs.cases.case_holds.Goals as goal

pub returns-then-not-related-clause-no : goal.returns-then-not-related-clause-no
returns-then-not-related-clause-no c e =
    least_refuted c.args.parts.now c.args.assignment.now c.args.question c.in_ok-least.least.left c.in_ok-least.least.right c.in_ok-least.ensures.left c.in_ok-least.ensures.right
    (sym c.relates-related.ensures ∙ c.if-not-related.true)

pub loop-p-preserved : goal.loop-p-preserved
loop-p-preserved c =
    let kept = c.loop-p.invariant.keeps in
    record {
      keeps = c.in_ok-holds.ensures.keeps ∙ kept;
      far = far_more c.args.parts.now c.args.assignment.now c.args.question c.args.rights c.in_ok-far.far c.loop-p.p c.loop-p.assignment kept c.loop-p.invariant.far
          (λ i. c.in_ok-holds.ensures.yes c.if-not-holds.false i);
    }

pub returns-then-not-holds-clause-no : goal.returns-then-not-holds-clause-no
returns-then-not-holds-clause-no c e =
    far_refuted c.args.parts.now c.args.assignment.now c.args.question c.in_ok-far.far c.loop-p.p c.loop-p.assignment c.loop-p.invariant.keeps (c.in_ok-holds.ensures.no c.if-not-holds.true)

pub returns-clause-yes : goal.returns-clause-yes
returns-clause-yes c e =
    let past = c.loop-p-test.false in
    let all : length c.args.assignment.now ≤ c.loop-p.p = omega arith in
    case_tested c.args.parts.now c.args.assignment.now c.args.question c.args.rights c.in_ok-far.far c.loop-p.p c.in_ok-least.least.left c.in_ok-least.least.right
    c.in_ok-least.ensures.left c.in_ok-least.ensures.right (sym c.relates-related.ensures ∙ c.if-not-related.false) c.in_ok-far.ensures all c.loop-p.invariant.far
