use Rattle.lk_derive.proofs.UnitVerdicts.{section_with_parts}
use Rattle.lk_derive.proofs.laws.section_with_parts_holds.Goals as goal

pub returns : goal.returns
returns c = λ us n budget d k number s at said h. section_with_parts us n budget d k number s at said h
