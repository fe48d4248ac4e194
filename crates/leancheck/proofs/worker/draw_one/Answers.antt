use Rattle.std.proofs.Common.{ℕ, ◌+◌, ◌++◌, ◌∷◌, [], List, ap, sym, ◌∙◌, subst}
use Rattle.lk_verdict.specs.declared.verdict.Verdict.TheVariants.{Memory}
use Rattle.leancheck.specs.declared.order.UnitVerdict.{UnitVerdict}
use Rattle.leancheck.specs.Workers.{GoesOnDrawing}
use Rattle.leancheck.proofs.Working.{draws_one}
use Rattle.leancheck.proofs.worker.draw_one.Goals as goal

pub returns-in-Some : goal.returns-in-Some
returns-in-Some c =
    let desk = c.args.desk.now in
    let seat = c.args.seat.now in
    let later = c.claim.new.seat in
    let n = c.in-Some.number in
    let one : UnitVerdict = record { number = n; verdict = Memory } in
    let drawn = c.in-Some.ensures in
    let items = c.push_reserved.ensures.items
    ∙ ap (λ (l : List UnitVerdict). l ++ one ∷ []) c.try_reserve.ensures.items in
    let draws = draws_one desk seat later c.args.answers.now.items c.args.passed n c.requires.sits
    c.requires.passed drawn.of drawn.some.1 drawn.some.0 in
    subst (λ (m : ℕ). GoesOnDrawing desk seat later c.args.answers.now.items
    c.push_reserved.new.self.items c.args.passed (m + 1)) (sym c.from.ensures)
    (subst (λ (l : List UnitVerdict). GoesOnDrawing desk seat later c.args.answers.now.items l
    c.args.passed (n + 1)) (sym items) draws)
