use Rattle.std.proofs.Common.{◌≡◌, refl, sym, ◌∙◌, Some}
use Rattle.std.proofs.lemmas.List.Elements.{All-push}
use Rattle.lk_trace.specs.Files.{IsFileSectionIn}
use Rattle.lk_traced.proofs.Ending.{ends}
use Rattle.lk_traced.proofs.Rising.{ended_last}
use Rattle.lk_traced.proofs.sections.Sections.end_with.Goals as goal

pub returns-in-Ok-clause-follows : goal.returns-in-Ok-clause-follows
returns-in-Ok-clause-follows c = λ k b h.
    ends c.args.self.now k b h _ c.args.number c.args.parts.items c.in-Some.begun c.ended.result (sym c.take.ensures.value ∙ c.in-Some.is) c.take.ensures.after refl c.in-Ok.ensures refl refl (λ p hp. c.ended.ensures.holds k p hp)

pub returns-in-Ok-clause-known : goal.returns-in-Ok-clause-known
returns-in-Ok-clause-known c = λ k h.
    let is : c.args.self.now.begun ≡ Some c.in-Some.begun = sym c.take.ensures.value ∙ c.in-Some.is in
    record {
      ended_in = rw c.in-Ok.ensures (All-push (IsFileSectionIn k) c.args.self.now.ended.items c.ended.result h.ended_in (c.ended.ensures.known k (rw is at h.begun_in)));
      begun_in = rw c.take.ensures.after tt;
      ordered = rw (c.take.ensures.after, c.in-Ok.ensures) (ended_last c.args.self.now.kinds.items c.args.self.now.least c.args.self.now.ended.items c.in-Some.begun c.ended.result c.ended.ensures.unit (rw is at h.ordered));
    }
