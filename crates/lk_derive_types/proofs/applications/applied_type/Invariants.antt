use Rattle.std.proofs.Common.{length}
use Rattle.lk_derive_types.specs.Spines.{IsGoing}
use Rattle.lk_derive_types.proofs.applications.applied_type.Given as goal

abbrev pub invariant-arguments : goal.invariant-arguments
invariant-arguments g l = IsGoing g.D.Terms.contents g.D.Terms.rest g.D.Looks.sight l.initial.derives l.derives l.e l.enough l.at l.rest l.asked

abbrev pub decreases-arguments : goal.decreases-arguments
decreases-arguments g l = length l.rest
