use Rattle.std.proofs.Common.{◌∙◌, arith}
use Rattle.std.proofs.lemmas.Grind.{common_steps}
use Rattle.lk_store.proofs.Extending.{Extends-trans}
use Rattle.lk_book.proofs.Remaining.{front_then}
use Rattle.lk_book.proofs.file.read_pieces.Goals as goal

pub returns-in_err-more-clause-front : goal.returns-in_err-more-clause-front
returns-in_err-more-clause-front g c = front_then _ _ _ c.pieces.invariant.front c.in_err-more.ensures.front

pub returns-then-not-more-clause-front : goal.returns-then-not-more-clause-front
returns-then-not-more-clause-front g c = front_then _ _ _ c.pieces.invariant.front c.in_ok-more.ensures.front

pub pieces-preserved : goal.pieces-preserved
pieces-preserved g c = record {
  piece = grind (arith, common_steps);
  grown = Extends-trans _ _ _ c.pieces.invariant.grown c.in_ok-more.ensures.keeps;
  rest = c.in_ok-more.ensures.rest ∙ c.pieces.invariant.rest;
  known = c.in_ok-more.ensures.known;
  counted = c.in_ok-more.ensures.counted;
  unfinished = c.in_ok-more.ensures.unfinished;
  short = c.in_ok-more.ensures.short;
  same_faults = c.in_ok-more.ensures.no_fault (λ e. absurd (cc)) ∙ c.pieces.invariant.same_faults;
  front = front_then _ _ _ c.pieces.invariant.front c.in_ok-more.ensures.front;
  remains = λ d old m. c.in_ok-more.ensures.remains d old (c.pieces.invariant.remains d old m);
}
