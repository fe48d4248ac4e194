use Rattle.std.proofs.Common.{sym, ap, ◌∙◌, subst}
use Rattle.lk_session.specs.declared.error.SubmitError.TheVariants.{Full}
use Rattle.lk_session.specs.Answers.{IsRefused}
use Rattle.lk_callers.specs.Owned.{bytes_in}
use Rattle.lk_callers.specs.Answered.{AreRight}
use Rattle.lk_callers.proofs.Calls.{text_is, text_faultless, on_error, no_fault, added_one, right_one, passes_one, full_one, within}
use Rattle.lk_callers.proofs.Replies.{rights_grow}
use Rattle.lk_session.specs.declared.view.View.{View}
use Rattle.lk_callers.proofs.calling.Called.submit.Goals as goal

pub expect_full-requires : goal.expect_full-requires
expect_full-requires g c = λ f e.
    let same = text_is c.args.texts.now c.args.text c.index-texts-text.result c.as_slice.result.now c.requires.within c.index-texts-text.is c.as_slice.ensures.value in
    no_fault g.T.Reads.stated _ c.as_slice.result.now c.args.self.now.pass.known c.submit-reply.new.pass.known c.in-Err.error f same (text_faultless g.T.Reads.stated c.args.texts.now c.args.text c.requires.faultless c.requires.within) e
    (on_error (IsRefused g.T.Reads.stated c.as_slice.result.now c.args.self.now.pass.known c.submit-reply.new.pass.known) c.submit-reply.result c.in-Err.error c.in-Err.is c.submit-reply.ensures.err)

pub returns-in-Ok : goal.returns-in-Ok
returns-in-Ok g c =
    let texts = bytes_in c.args.texts.now in
    let i = c.requires.called in
    let v = c.args.self.now.pass.known in
    let w = c.submit-reply.new.pass.known in
    let same = text_is c.args.texts.now c.args.text c.index-texts-text.result c.as_slice.result.now c.requires.within c.index-texts-text.is c.as_slice.ensures.value in
    let budget = g.C.Checks.budget_of c.args.checks.now in
    let s = c.in-Ok.ensures.ok in
    record {
      number_is = i.number_is;
      passes = passes_one g.T.Reads.stated texts c.args.turns budget c.args.self.now.number c.args.text c.as_slice.result.now v w same c.requires.turn c.in-Ok.reply s ∙ i.passes;
      added = added_one g.T.Reads.stated texts c.args.turns budget c.args.self.now.number c.args.text c.as_slice.result.now v w same c.requires.turn c.in-Ok.reply s c.args.self.now.full c.requires.not_full i.added;
      right = right_one g.T.Reads.stated texts c.args.turns budget c.args.self.now.number c.args.text c.as_slice.result.now v w same c.requires.turn c.in-Ok.reply s c.reserve.new.self.items c.push_reserved.new.self.items c.push_reserved.ensures.items (subst (AreRight g.T.Reads.stated budget v.seen) (sym c.reserve.ensures.items) i.right);
    }

pub returns-in_ok-expect_full-in-Err : goal.returns-in_ok-expect_full-in-Err
returns-in_ok-expect_full-in-Err g c =
    let texts = bytes_in c.args.texts.now in
    let i = c.requires.called in
    let v = c.args.self.now.pass.known in
    let w = c.submit-reply.new.pass.known in
    let stated = g.T.Reads.stated in
    let budget = g.C.Checks.budget_of c.args.checks.now in
    let same = text_is c.args.texts.now c.args.text c.index-texts-text.result c.as_slice.result.now c.requires.within c.index-texts-text.is c.as_slice.ensures.value in
    let full = c.in_ok-expect_full-in-Err.ensures in
    let r : IsRefused stated c.as_slice.result.now v w (Full full.0) = subst (IsRefused stated c.as_slice.result.now v w) full.1
    (on_error (IsRefused stated c.as_slice.result.now v w) c.submit-reply.result c.in-Err.error c.in-Err.is c.submit-reply.ensures.err) in
    record {
      number_is = i.number_is;
      passes = ap (λ (x : View). x.passes) r.4 ∙ i.passes;
      added = full_one stated texts c.args.turns budget c.args.self.now.number c.args.text c.as_slice.result.now v w same c.requires.turn c.args.self.now.full full.0 c.requires.not_full (within c.args.texts.now c.args.text c.requires.within) i.added r;
      right = subst (AreRight stated budget w.seen) (sym c.reserve.ensures.items) (rights_grow stated budget v.seen w.seen c.args.self.now.replies.items r.1 i.right);
    }
