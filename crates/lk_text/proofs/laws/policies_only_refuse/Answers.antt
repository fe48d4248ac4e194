use Rattle.lk_text.proofs.Refusing.{as_many, each, accepted_before, allowed_each, every_stays}
use Rattle.lk_text.proofs.laws.policies_only_refuse.Goals as goal

pub returns : goal.returns
returns c = record { as_many = as_many; each = each; accepted = accepted_before; allowed = allowed_each; every = every_stays }
