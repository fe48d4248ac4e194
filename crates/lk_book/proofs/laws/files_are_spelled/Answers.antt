use Rattle.lk_book.proofs.Spelled.{read_spelled}
use Rattle.lk_book.proofs.laws.files_are_spelled.Goals as goal

pub returns : goal.returns
returns c = λ bytes e q. read_spelled bytes e q
