use Rattle.std.proofs.Common.{sym, ◌∙◌}
use Rattle.lk_lines.specs.FileNumbers.{wide}
use Rattle.lk_lines.specs.Views.{derivation_values}
use Rattle.lk_trace.specs.Meaning.{line_of}
use Rattle.lk_traced.specs.Placed.{with_derivation}
use Rattle.lk_traced.proofs.Adding.{taken_already, derived_then, derived_stops}
use Rattle.lk_traced.proofs.Refusing.{on_ok}
use Rattle.lk_traced.proofs.sections.Sections.derivation.Goals as goal

pub returns-then-contains-clause-follows : goal.returns-then-contains-clause-follows
returns-then-contains-clause-follows c = λ k s b n known h.
    taken_already c.args.self.now k b h s c.args.own (derivation_values wide c.args.line.now) (with_derivation c.args.number b c.args.own) (sym c.contains.ensures ∙ c.if-contains.true)

pub returns-in-Ok-clause-follows : goal.returns-in-Ok-clause-follows
returns-in-Ok-clause-follows c = λ k s b n known h.
    rw (derived_then c.args.self.now k b h s c.args.own (derivation_values wide c.args.line.now) (with_derivation c.args.number b c.args.own) (line_of k c.in-Ok.derived) (sym c.contains.ensures ∙ c.if-contains.false) (c.in-Ok.ensures.made k s b n h))
    (c.add.ensures.follows k b known h)

pub returns-in-Err-clause-follows : goal.returns-in-Err-clause-follows
returns-in-Err-clause-follows c = λ k s b n known h.
    derived_stops c.args.self.now k b h s c.args.own (derivation_values wide c.args.line.now) (with_derivation c.args.number b c.args.own) c.in-Err.error (sym c.contains.ensures ∙ c.if-contains.false) (c.in-Err.ensures.made k s b n h)

pub returns-in-Ok-clause-known : goal.returns-in-Ok-clause-known
returns-in-Ok-clause-known c = on_ok c.add.result _ _ (λ f k below h. f k h (c.in-Ok.ensures.known k below)) c.add.ensures.known
