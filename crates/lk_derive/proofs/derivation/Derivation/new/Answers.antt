use Rattle.std.proofs.Common.{rules}
use Rattle.lk_derive.proofs.Marked.{none_marked}
use Rattle.lk_derive.proofs.derivation.Derivation.new.Goals as goal

pub returns : goal.returns
returns c = λ w d. none_marked w d _ (c.new.ensures.notes w d) (λ q. search rules)
