use Rattle.std.proofs.Common.{rules, take, ◌∙◌, refl, arith}
use Rattle.std.proofs.lemmas.Grind.{common_steps}
use Rattle.lk_book.proofs.LongLines.{skips_more, skips_end, skips_word, skips_front}
use Rattle.lk_book.proofs.long.long_line.Goals as goal

pub returns-then-read-eq0-clause-word : goal.returns-then-read-eq0-clause-word
returns-then-read-eq0-clause-word g c = λ begun bytes h l e.
    let end = c.in_ok-read.ensures.bytes.1 c.if-read-eq0.true (search rules) in
    skips_end _ _ _ c.args.before c.args.held c.loop-read.count (take c.in_ok-read.read c.read.new.into) begun bytes _ c.loop-read.invariant.skips c.in_ok-read.ensures.bytes.0 (rw c.if-read-eq0.true refl) end c.word_of.ensures h l e

pub loop-read-preserved : goal.loop-read-preserved
loop-read-preserved g c = record {
  piece = grind (arith, common_steps);
  same_faults = c.in_ok-read.ensures.count.kept ∙ c.loop-read.invariant.same_faults;
  long = search rules;
  room = search rules;
  skips = skips_more _ _ _ _ _ _ (take c.in_ok-read.read c.read.new.into) c.loop-read.invariant.skips c.in_ok-read.ensures.bytes.0 c.in-Ok.ensures.unfinished c.in-Ok.ensures.on.0;
}

pub returns-in-Err-clause-word : goal.returns-in-Err-clause-word
returns-in-Err-clause-word g c = λ begun bytes h l e.
    skips_word _ _ _ c.args.before c.args.held c.loop-read.count (take c.in_ok-read.read c.read.new.into) begun bytes _ c.loop-read.invariant.skips c.in_ok-read.ensures.bytes.0 c.in-Err.ensures.word h l e

pub returns-in-Err-clause-front : goal.returns-in-Err-clause-front
returns-in-Err-clause-front g c = skips_front _ _ _ _ _ (take c.in_ok-read.read c.read.new.into) c.loop-read.invariant.skips c.in_ok-read.ensures.bytes.0
