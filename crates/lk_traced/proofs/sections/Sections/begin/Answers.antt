use Rattle.std.proofs.Common.{◌≡◌, ◌+◌, rules, refl, sym, ◌∙◌}
use Rattle.lk_traced.proofs.Ending.{none_of, begun_twice, has_no_section, begins}
use Rattle.lk_traced.proofs.Rising.{begun_last}
use Rattle.lk_traced.proofs.sections.Sections.begin.Goals as goal

pub returns-then-is_some-clause-follows : goal.returns-then-is_some-clause-follows
returns-then-is_some-clause-follows c = λ k b h. begun_twice c.args.self.now k b h c.args.number c.args.unit (sym c.is_some.ensures ∙ c.if-is_some.true)

pub returns-then-not-has_section-clause-follows : goal.returns-then-not-has_section-clause-follows
returns-then-not-has_section-clause-follows c = λ k b h.
    has_no_section c.args.self.now k b h c.args.number c.args.unit (sym c.is_some.ensures ∙ c.if-is_some.false) (sym (c.has_section.ensures.has b.export.units h.kinds) ∙ c.if-not-has_section.true)

pub returns-clause-follows : goal.returns-clause-follows
returns-clause-follows c = λ k b h.
    begins c.args.self.now k b h _ c.args.number c.args.unit c.in-Ok.narrow c.new.result (search rules) (sym c.is_some.ensures ∙ c.if-is_some.false) (sym (c.has_section.ensures.has b.export.units h.kinds) ∙ c.if-not-has_section.false) refl refl refl (search rules) refl
    (c.new.ensures.holds k)

pub returns-clause-known : goal.returns-clause-known
returns-clause-known c = λ k h.
    let same : c.in-Ok.narrow ≡ c.args.unit = search rules in
    record {
      ended_in = h.ended_in;
      begun_in = c.new.ensures.known k;
      ordered = begun_last c.args.self.now.kinds.items c.args.self.now.least c.args.self.now.ended.items c.new.result c.args.unit _ ((c.new.ensures.holds k).unit ∙ same) (search rules) (rw (none_of c.args.self.now.begun (sym c.is_some.ensures ∙ c.if-is_some.false)) at h.ordered)
          (c.has_section.ensures.least c.if-not-has_section.false) (c.has_section.ensures.alone c.if-not-has_section.false);
    }
