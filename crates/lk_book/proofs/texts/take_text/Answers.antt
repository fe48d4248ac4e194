use Rattle.std.proofs.Common.{rules, ◌≡◌, ◌<◌, ◌^◌, List, ℕ, length, ap, sym, ◌∙◌, arith}
use Rattle.lk_book.specs.File.{lines_of}
use Rattle.lk_book.specs.ReadingTexts.{cut_of}
use Rattle.lk_book.proofs.FaultLines.{line_within}
use Rattle.lk_book.proofs.texts.take_text.Goals as goal

pub behind_lines-requires : goal.behind_lines-requires
behind_lines-requires c =
    let named = line_within c.args.before (cut_of c.split_at.result.0.now c.args.first) c.in-Err.error c.in-Err.ensures.fault in
    let counted : c.args.first.lines ≡ length (lines_of c.split_at.result.0.now) = c.requires.first.counted ∙ ap (λ (t : List ℕ). length (lines_of t)) (sym c.split_at.ensures.front) in
    let few = c.requires.first.few in
    let within = c.requires.first.within in
    let lines = c.requires.counted.lines in
    let before = c.requires.counted.within in
    let short : length c.args.rest.now < 2 ^ 63 = search rules in
    omega arith
