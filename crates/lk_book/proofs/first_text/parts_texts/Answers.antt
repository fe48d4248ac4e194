use Rattle.std.proofs.Common.{rules, ◌≡◌, ◌≤◌, ◌^◌, ◌∙◌, length, sym, ap}
use Rattle.std.specs.Str.{bytes_eq}
use Rattle.lk_lines.specs.declared.tags.Tag.TheVariants.{Go}
use Rattle.lk_lines.specs.Tags.{tag_word}
use Rattle.lk_book.specs.Texts.{begins_go}
use Rattle.lk_book.proofs.Cuts.{long_parts, short_parts}
use Rattle.lk_book.proofs.first_text.parts_texts.Goals as goal

pub returns-then-line-gt-MAX_LINE : goal.returns-then-line-gt-MAX_LINE
returns-then-line-gt-MAX_LINE c = sym (long_parts c.args.line.now c.if-line-gt-MAX_LINE.true)

pub returns-in-None : goal.returns-in-None
returns-in-None c =
    let short : length c.args.line.now ≤ 2 ^ 24 = search rules in
    sym (short_parts c.args.line.now short ∙ ap begins_go c.in-None.ensures)

pub returns-in-Some : goal.returns-in-Some
returns-in-Some c =
    let short : length c.args.line.now ≤ 2 ^ 24 = search rules in
    let is : c.eq.result ≡ bytes_eq c.in-Some.field.now (tag_word Go) = search rules in
    is ∙ sym (short_parts c.args.line.now short ∙ ap begins_go c.in-Some.ensures)
