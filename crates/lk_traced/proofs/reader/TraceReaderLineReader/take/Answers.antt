use Rattle.std.proofs.Common.{arith, refl, ap}
use Rattle.lk_book.specs.declared.reader.Reader.{Reader}
use Rattle.lk_traced.specs.Limited.{trace_limited}
use Rattle.lk_traced.proofs.Refusing.{on_any}
use Rattle.lk_traced.proofs.Taking.{stands_passed, step_is}
use Rattle.lk_traced.proofs.reader.TraceReaderLineReader.take.Goals as goal

pub returns-in-Err-clause-step : goal.returns-in-Err-clause-step
returns-in-Err-clause-step g c = λ t h.
    let long = c.in-Err.ensures.tells in
    rw long.2 (trace_limited c.args.self.now (g.T.Terms.contents c.args.store.now) t c.args.feed c.args.line.now long.0 h long.1)

pub returns-clause-step : goal.returns-clause-step
returns-clause-step g c = λ t h.
    let store = g.T.Terms.contents c.args.store.now in
    rw (step_is c.args.self.now store t c.args.feed c.args.line.now h c.in-Ok.ensures.within)
    (c.take_passed.ensures.step _ (stands_passed c.args.self.now store t c.args.feed c.args.line.now h _ c.in-Ok.ensures.passes refl))

pub take_passed-requires-clause-known : goal.take_passed-requires-clause-known
take_passed-requires-clause-known g c = record { reader_known = rw c.in-Ok.ensures.passes c.requires.known.reader_known; behind_known = c.requires.known.behind_known }

pub take_passed-requires-clause-number : goal.take_passed-requires-clause-number
take_passed-requires-clause-number g c = rw c.in-Ok.ensures.passes c.in-Ok.ensures.number

pub returns-clause-counted : goal.returns-clause-counted
returns-clause-counted g c =
    on_any c.take_passed.result _ (λ f. rw (c.take_passed.ensures.counts.0, c.take_passed.ensures.counts.1) (c.in-Ok.ensures.counted f))

pub returns-clause-length : goal.returns-clause-length
returns-clause-length g c =
    let after = c.take_passed.ensures.counts.1 in
    let passed = ap (λ (r : Reader). r.before) c.in-Ok.ensures.passes in
    on_any c.take_passed.result _ (omega arith)
