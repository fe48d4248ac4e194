use Rattle.lk_derive_iota.proofs.KRuns.{k_off}
use Rattle.lk_derive_iota.proofs.candidates.candidate_of.Goals as goal

pub returns-clause-is : goal.returns-clause-is
returns-clause-is g c = k_off c.requires.at c.if-has_k.false
