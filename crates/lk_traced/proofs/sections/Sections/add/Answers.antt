use Rattle.std.proofs.Common.{refl}
use Rattle.lk_trace.specs.Meaning.{line_of}
use Rattle.lk_traced.specs.Begun.{IsBegunIn}
use Rattle.lk_traced.proofs.Adding.{added}
use Rattle.lk_traced.proofs.Rising.{same_last}
use Rattle.lk_traced.proofs.sections.Sections.add.Goals as goal

pub returns-in-Ok-add_number-clause-follows : goal.returns-in-Ok-add_number-clause-follows
returns-in-Ok-add_number-clause-follows c = λ k b known h.
    let begun : IsBegunIn k c.in-Some.begun = rw c.in-Some.is at known.begun_in in
    added c.args.self.now _ k b _ _ c.args.number c.args.own (line_of k c.args.line) c.in-Some.is refl refl refl refl c.in-Ok-add_number.ensures (λ p hp. c.in-Ok.ensures.holds k p begun hp) h

pub returns-in-Ok-add_number-clause-known : goal.returns-in-Ok-add_number-clause-known
returns-in-Ok-add_number-clause-known c = λ k h line. record {
  ended_in = h.ended_in;
  begun_in = c.in-Ok.ensures.known k (rw c.in-Some.is at h.begun_in) line;
  ordered = same_last c.args.self.now.kinds.items c.args.self.now.least c.args.self.now.ended.items c.in-Some.begun _ c.in-Ok.ensures.unit (rw c.in-Some.is at h.ordered);
}
