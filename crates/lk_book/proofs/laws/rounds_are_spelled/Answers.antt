use Rattle.lk_book.proofs.Spelled.{rounds_spelled}
use Rattle.lk_book.proofs.laws.rounds_are_spelled.Goals as goal

pub returns : goal.returns
returns c = λ bytes parts h. rounds_spelled bytes parts h
