use Rattle.std.proofs.Common.{length, sym, ap, ◌∙◌}
use Rattle.lk_questions.specs.Erased.{Steps}
use Rattle.lk_store.specs.Contents.{tree_at}
use Rattle.lk_ask.specs.Lines.{Rest}
use Rattle.lk_ask.specs.Nexts.{IsKnownNext}
use Rattle.lk_ask.proofs.LineSteps.{line_now}
use Rattle.lk_lit.specs.declared.step.LitPart.{LitPart}
use Rattle.lk_lit.specs.Literals.{after_left}
use Rattle.lk_lit.specs.Sheets.{IsKnownLit}
use Rattle.lk_lit.specs.Steps.{lit_steps}
use Rattle.lk_lit.proofs.literals.of_left.Goals as goal

pub returns-in-Goes : goal.returns-in-Goes
returns-in-Goes g c =
    let d = g.L.Terms.contents c.args.looks.now in
    let s = g.L.Looks.sight (g.L.Terms.rest c.args.looks.now) in
    let w = s.basis.place in
    let t = tree_at d in
    let n = length d.trees in
    let known : IsKnownNext IsKnownLit n c.in-Goes.next = rw c.in-Goes.is at c.requires.part_in in
    let steps : Rest → LitPart → Steps =
    λ p part. lit_steps (after_left p w (t c.args.a) (t c.args.b)) w t s.last part in
    line_now c.args.looks.now c.stepping.result (λ p. steps p c.args.part)
    (c.stepping.ensures.known n known c.requires.a_in c.requires.b_in)
    (λ p. c.stepping.ensures.steps p w t s.last ∙ ap (steps p) (sym c.in-Goes.is))
