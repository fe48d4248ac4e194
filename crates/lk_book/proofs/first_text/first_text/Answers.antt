use Rattle.std.proofs.Common.{rules, ◌∙◌, sym}
use Rattle.lk_token.specs.Lines.{HasNoLineFeed}
use Rattle.lk_book.proofs.Cuts.{line_passed, ends_here, ends_last, ends_whole}
use Rattle.lk_book.proofs.first_text.first_text.Goals as goal

pub returns-then-parts_texts : goal.returns-then-parts_texts
returns-then-parts_texts c =
    ends_here c.args.bytes.now c.loop-line.rest.now c.loop-line.count c.loop-line.lines c.loop-line.invariant c.in-Some.line.now c.in-Some.more.now c.in-Some.ensures.0 c.in-Some.ensures.1
    (sym c.parts_texts.ensures ∙ c.if-parts_texts.true) c.has_extra.result c.has_extra.ensures

pub loop-line-preserved : goal.loop-line-preserved
loop-line-preserved c =
    line_passed c.args.bytes.now c.loop-line.rest.now c.loop-line.count c.loop-line.lines c.loop-line.invariant c.in-Some.line.now c.in-Some.more.now c.in-Some.ensures.0 c.in-Some.ensures.1
    (sym c.parts_texts.ensures ∙ c.if-parts_texts.false)

pub returns-then-parts_texts-2 : goal.returns-then-parts_texts-2
returns-then-parts_texts-2 c =
    let none : HasNoLineFeed c.loop-line.rest.now = search rules in
    ends_last c.args.bytes.now c.loop-line.rest.now c.loop-line.count c.loop-line.lines c.loop-line.invariant none
    (sym c.parts_texts-2.ensures ∙ c.if-parts_texts-2.true) c.has_extra-then-parts_texts-2.result c.has_extra-then-parts_texts-2.ensures

pub returns : goal.returns
returns c =
    let none : HasNoLineFeed c.loop-line.rest.now = search rules in
    ends_whole c.args.bytes.now c.loop-line.rest.now c.loop-line.count c.loop-line.lines c.loop-line.invariant none (sym c.parts_texts-2.ensures ∙ c.if-parts_texts-2.false)
