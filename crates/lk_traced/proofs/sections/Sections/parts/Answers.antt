use Rattle.std.proofs.Common.{◌∙◌}
use Rattle.lk_units.specs.Numbering.{entry}
use Rattle.lk_traced.specs.Placed.{places_of}
use Rattle.lk_traced.proofs.Adding.{makes_same}
use Rattle.lk_traced.proofs.Ending.{places_none, places_begun}
use Rattle.lk_traced.proofs.sections.Sections.parts.Goals as goal

pub returns-in-Some : goal.returns-in-Some
returns-in-Some c = λ k b h.
    makes_same _ (places_of b.begun) c.args.premises.now c.find_places.result (λ q. places_begun c.args.self.now k b _ h c.in-Some.is q) c.find_places.ensures

pub returns-in-None : goal.returns-in-None
returns-in-None c = λ k b h.
    makes_same _ (places_of b.begun) c.args.premises.now c.find_places-in-None.result (λ q. c.new-none.ensures q ∙ places_none c.args.self.now k b h c.in-None.is q) c.find_places-in-None.ensures
