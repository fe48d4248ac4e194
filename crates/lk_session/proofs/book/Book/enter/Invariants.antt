use Rattle.lk_session.specs.Answers.{offered}
use Rattle.lk_session.proofs.book.Book.enter.Given as goal

-- the call that is added
abbrev pub ghosts-add : goal.ghosts-add
ghosts-add g a = record { call = offered a.offer }
