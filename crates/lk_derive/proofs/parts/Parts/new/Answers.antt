use Rattle.lk_derive.proofs.PartsAdded.{none_added}
use Rattle.lk_derive.proofs.parts.Parts.new.Goals as goal

pub returns-clause-are : goal.returns-clause-are
returns-clause-are c = λ w t. none_added w t (record { derivation = c.new.result; claims = c.new-2.result }) (c.new.ensures w t) c.new-2.ensures.items
