use Rattle.std.proofs.Common.{◌-◌}
use Rattle.lk_derive_types.specs.Projections.{IsWalking}
use Rattle.lk_derive_types.proofs.fields.past_fields.Given as goal

abbrev pub invariant-fields : goal.invariant-fields
invariant-fields g l = IsWalking g.D.Terms.contents g.D.Terms.rest g.D.Looks.sight l.initial.derives l.derives l.p l.enough l.number l.at l.asked

abbrev pub decreases-fields : goal.decreases-fields
decreases-fields g l = l.p.field - l.number
