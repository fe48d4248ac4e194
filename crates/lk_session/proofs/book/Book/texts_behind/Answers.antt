use Rattle.std.proofs.Common.{◌≡◌, ℕ, ◌∙◌, List, length, drop, min, ap, subst, arith, rules}
use Rattle.lk_session.specs.declared.view.Submission.{Submission}
use Rattle.lk_session.specs.Reading.{AreBehind}
use Rattle.lk_session.proofs.Reading.{behind_of, drop_min}
use Rattle.lk_session.proofs.book.Book.texts_behind.Goals as goal

pub returns : goal.returns
returns g c =
    let all = c.self.inside.texts.items in
    let start : c.min-start.result ≡ min c.args.read (length all) = search rules in
    let behind : c.split_at.result.1.now ≡ drop c.min-start.result all = search rules in
    let is : c.split_at.result.1.now ≡ drop c.args.read all = behind ∙ (ap (λ (k : ℕ). drop k all) start ∙ drop_min c.args.read all) in
    subst (λ (l : List Submission). AreBehind g.T.Reads.stated c.args.read l c.in_ok-texts.texts.items) c.self.view_is
    (behind_of g.B.Room.table g.T.Reads.stated c.self.inside.seat all c.self.inside.marks.items c.self.inside.units c.args.read c.split_at.result.1.now c.in_ok-texts.texts.items c.self.invariant
    (omega (arith, c.self.inside.texts.ok.0, c.self.inside.texts.ok.1, c.self.inside.texts.small)) is c.in_ok-texts.ensures)
