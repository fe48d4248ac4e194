use Rattle.std.proofs.Common.{sym, ◌∙◌}
use Rattle.lk_traced.specs.Placed.{places_of}
use Rattle.lk_traced.proofs.Ending.{places_none, places_begun}
use Rattle.lk_traced.proofs.sections.Sections.derived.Goals as goal

pub returns-in-Some-clause-made : goal.returns-in-Some-clause-made
returns-in-Some-clause-made c = λ k s b n h.
    c.derived_line.ensures.made k s (places_of b.begun) n (λ q. places_begun c.args.self.now k b _ h c.in-Some.is q)

pub returns-in-None-clause-made : goal.returns-in-None-clause-made
returns-in-None-clause-made c = λ k s b n h.
    c.derived_line-in-None.ensures.made k s (places_of b.begun) n (λ q. c.new-none.ensures q ∙ places_none c.args.self.now k b h c.in-None.is q)
