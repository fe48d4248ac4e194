use Rattle.lk_book.proofs.Alone.{texts_faultless}
use Rattle.lk_book.proofs.laws.texts_are_faultless.Goals as goal

pub returns : goal.returns
returns c = texts_faultless
