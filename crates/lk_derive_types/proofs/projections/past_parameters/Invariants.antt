use Rattle.std.proofs.Common.{length}
use Rattle.lk_derive_types.specs.Projections.{IsPassing}
use Rattle.lk_derive_types.proofs.projections.past_parameters.Given as goal

abbrev pub invariant-parameters : goal.invariant-parameters
invariant-parameters g l = IsPassing g.D.Terms.contents g.D.Terms.rest g.D.Looks.sight l.initial.derives l.derives l.e l.enough l.prop l.at l.rest l.asked

abbrev pub decreases-parameters : goal.decreases-parameters
decreases-parameters g l = length l.rest
