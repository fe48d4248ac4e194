use Rattle.std.proofs.Common.{refl}
use Rattle.lk_traced.proofs.Refusing.{on_both}
use Rattle.lk_traced.proofs.Taking.{before_goes, before_stops, behind_steps}
use Rattle.lk_traced.proofs.reader.TraceReader.take_passed.Goals as goal

pub returns-in-Some-clause-step : goal.returns-in-Some-clause-step
returns-in-Some-clause-step g c = λ t h.
    behind_steps c.args.self.now (g.T.Terms.contents c.args.store.now) t c.args.line.now h c.in-Some.sections c.in-Some.is _ c.behind_line.new.sections (g.T.Terms.contents c.behind_line.new.store) c.behind_line.result refl
    (λ b hs e. c.behind_line.ensures.step t.course b h.stands hs e)

pub returns-in-Ok-clause-step : goal.returns-in-Ok-clause-step
returns-in-Ok-clause-step g c = λ t h.
    before_goes c.args.self.now (g.T.Terms.contents c.args.store.now) t c.args.line.now h c.in-None.is _ _ (c.in-Ok.ensures.step t.course h.stands)

pub returns-in-Err-clause-step : goal.returns-in-Err-clause-step
returns-in-Err-clause-step g c = λ t h.
    before_stops c.args.self.now (g.T.Terms.contents c.args.store.now) t c.args.line.now h c.in-None.is c.in-Err.error (c.in-Err.ensures.step t.course h.stands)

pub behind_line-requires-clause-sections : goal.behind_line-requires-clause-sections
behind_line-requires-clause-sections g c = rw c.in-Some.is at c.requires.known.behind_known

pub returns-in-Some-clause-known : goal.returns-in-Some-clause-known
returns-in-Some-clause-known g c =
    on_both c.behind_line.result _ _ _ (λ p q. record { reader_known = p; behind_known = q }) c.behind_line.ensures.known c.behind_line.ensures.sections

pub returns-in-Ok-clause-known : goal.returns-in-Ok-clause-known
returns-in-Ok-clause-known g c = record { reader_known = c.in-Ok.ensures.known; behind_known = c.in-Ok.ensures.behind }
