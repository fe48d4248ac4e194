use Rattle.lk_book.proofs.Spelled.{text_spelled}
use Rattle.lk_book.proofs.laws.texts_are_spelled.Goals as goal

pub returns : goal.returns
returns c = text_spelled
