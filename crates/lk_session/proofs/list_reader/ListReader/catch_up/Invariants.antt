use Rattle.std.proofs.Common.{◌≡◌, ◌+◌, List, [], map, drop}
use Rattle.lk_session.specs.declared.view.Submission.{Submission}
use Rattle.lk_session.specs.Texts.{bytes_of, texts_of}
use Rattle.lk_session.specs.Reading.{HasRead}
use Rattle.lk_session.proofs.list_reader.ListReader.catch_up.Given as goal

-- so many texts more were read
abbrev pub invariant-loop-k : goal.invariant-loop-k
invariant-loop-k g l =
    (l.self.count ≡ l.initial.self.count + l.k)
    × (l.self.library.budgets ≡ [])
    × ((list : List Submission) → HasRead g.T.Reads.stated list l.initial.self → map bytes_of l.texts ≡ drop l.initial.self.count (texts_of list) → HasRead g.T.Reads.stated list l.self)
