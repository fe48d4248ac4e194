use Rattle.std.proofs.Common.{arith, refl, ap, ◌∷◌, length, ◌∙◌}
use Rattle.std.proofs.lemmas.Result.{err_from_is_err_and}
use Rattle.std.proofs.lemmas.List.{length-append}
use Rattle.lk_store.proofs.Extending.{Extends-trans}
use Rattle.lk_book.proofs.Leading.{passes_line, passes_stops}
use Rattle.lk_book.proofs.lines.take_lines.Goals as goal

pub returns-in_err-take-clause-stops : goal.returns-in_err-take-clause-stops
returns-in_err-take-clause-stops g c = λ d h.
    let p = err_from_is_err_and c.from_residual.result c.from_residual.ensures.1 in
    let so_far = c.loop-line.invariant.passes d h in
    rw (p.1, p.2) (passes_stops g.R.LineReader.step _ d _ _ c.in-Some.line.now c.in-Some.more.now _ so_far c.in-Some.ensures.1 c.in-Some.ensures.0 (c.in_err-take.ensures.step so_far.course so_far.stands))

pub loop-line-preserved : goal.loop-line-preserved
loop-line-preserved g c = record {
  grown = Extends-trans _ _ _ c.loop-line.invariant.grown c.in_ok-take.ensures.keeps;
  rest = c.in_ok-take.ensures.rest ∙ c.loop-line.invariant.rest;
  known = c.in_ok-take.ensures.known;
  counted = c.in_ok-take.ensures.counted refl;
  counts = omega (arith, c.in_ok-take.ensures.length, ap length c.in-Some.ensures.1, length-append c.in-Some.line.now (10 ∷ c.in-Some.more.now));
  passes = λ d h.
      let so_far = c.loop-line.invariant.passes d h in
      passes_line g.R.LineReader.step _ _ d _ _ c.in-Some.line.now c.in-Some.more.now so_far c.in-Some.ensures.1 c.in-Some.ensures.0 (c.in_ok-take.ensures.step so_far.course so_far.stands);
}
