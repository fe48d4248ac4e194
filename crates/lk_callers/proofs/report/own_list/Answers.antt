use Rattle.std.proofs.Common.{rules, ◌≡◌, ◌∙◌, List, length, ap, arith, sym}
use Rattle.lk_session.specs.declared.view.View.{View}
use Rattle.lk_session.specs.declared.view.Submission.{Submission}
use Rattle.lk_session.specs.Texts.{marks_of}
use Rattle.lk_session.proofs.Adding.{length-marks}
use Rattle.lk_callers.proofs.Wholes.{nothing_more}
use Rattle.lk_callers.proofs.report.own_list.Goals as goal

pub returns-clause-marks : goal.returns-clause-marks
returns-clause-marks g c =
    let h = c.in_ok-marks.ensures in
    let p = c.passes_made-made.ensures in
    let came : c.history.new.pass.known.passes ≡ c.args.passes = ap (λ (v : View). v.passes) h.rest ∙ c.requires.passes in
    let made : c.passes_made-made.result ≡ c.args.passes = search rules in
    let mine = ap (λ (v : View). v.mine) p.rest ∙ ap (λ (v : View). v.mine) h.rest in
    let seen = nothing_more c.args.pass.now.known c.history.new.pass.known c.passes_made-made.new.pass.known c.requires.own h.order p.order mine (p.whole (came ∙ sym made)) in
    h.marks ∙ ap (λ (l : List Submission). marks_of g.T.Reads.stated 0 l) seen

pub returns-clause-read : goal.returns-clause-read
returns-clause-read g c =
    let h = c.in_ok-marks.ensures in
    let p = c.passes_made-made.ensures in
    let came : c.history.new.pass.known.passes ≡ c.args.passes = ap (λ (v : View). v.passes) h.rest ∙ c.requires.passes in
    let made : c.passes_made-made.result ≡ c.args.passes = search rules in
    let mine = ap (λ (v : View). v.mine) p.rest ∙ ap (λ (v : View). v.mine) h.rest in
    let seen = nothing_more c.args.pass.now.known c.history.new.pass.known c.passes_made-made.new.pass.known c.requires.own h.order p.order mine (p.whole (came ∙ sym made)) in
    let count : c.len.result ≡ length c.in_ok-marks.field-0.marks.items = search rules in
    let marks = ap length h.marks ∙ length-marks g.T.Reads.stated 0 c.history.new.pass.known.seen in
    let long = ap length seen in
    let few = c.if-read-len.false in
    let read = h.read in
    let still = p.read in
    omega arith
