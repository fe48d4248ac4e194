use Rattle.std.proofs.Common.{ap, refl}
use Rattle.lk_env.specs.StoredLibrary.{StoredLibrary}
use Rattle.lk_env.specs.Units.{library_of}
use Rattle.lk_session.proofs.Reading.{read_none}
use Rattle.lk_session.proofs.list_reader.ListReader.new.Goals as goal

pub returns-clause-read : goal.returns-clause-read
returns-clause-read c stated list =
    let is = c.empty.ensures in
    read_none stated list _ refl (ap library_of is) (ap (λ (l : StoredLibrary). l.budgets) is)
