-- What a worker keeps from one number to the next.
use Rattle.std.proofs.Common.{◌≡◌, ℕ, ◌+◌, ◌<◌, List, [], ◌∷◌, ◌++◌, All, length, get_or, set, refl, sym, ap, ◌∙◌, subst, arith, inr, append_assoc}
use lib.Seq.{map-set_same}
use Rattle.std.proofs.lemmas.List.{get_or_push, map-append, length-append, length_push}
use Rattle.std.proofs.lemmas.List.Elements.{All-push}
use Rattle.lk_desk.specs.declared.table.Desk.{Desk}
use Rattle.lk_desk.specs.declared.table.Seat.{Seat}
use Rattle.lk_desk.specs.declared.view.View.{View}
use Rattle.lk_desk.specs.Job.{Job, units_of}
use Rattle.lk_desk.specs.Seats.{view, job, Sits, Stays, Drew}
use Rattle.lk_verdict.specs.declared.verdict.Verdict.TheVariants.{Memory}
use Rattle.leancheck.specs.declared.order.UnitVerdict.{UnitVerdict}
use Rattle.leancheck.specs.Drawn.{IsRightOne, numbers}
use Rattle.leancheck.specs.Workers.{IsPassed, GoesOnDrawing}

last_below : (xs : List ℕ) (n b : ℕ) → All (λ x. x < b) (xs ++ n ∷ []) → n < b
last_below xs n b all =
    let e = get_or_push xs n 0 (length xs) refl in
    let h = all (length xs) 0 (omega (arith, length-append xs (n ∷ []))) in
    subst (λ (x : ℕ). x < b) e h

one_more : (before : List ℕ) (answers : List UnitVerdict) (a : UnitVerdict)
    → (before ++ numbers answers) ++ a.number ∷ [] ≡ before ++ numbers (answers ++ a ∷ [])
one_more before answers a =
    let f : UnitVerdict → ℕ = λ a. a.number in
    append_assoc before (numbers answers) (a.number ∷ [])
    ∙ ap (λ (l : List ℕ). before ++ l) (sym (map-append f answers (a ∷ [])))

-- a seat draws one number more, which says memory for now, and passes it
pub draws_one : (desk : Desk) (seat later : Seat) (answers : List UnitVerdict) (passed n : ℕ)
    → Sits seat desk → IsPassed passed seat → Stays seat later desk → Drew seat later n
    → n < units_of (job desk)
    → GoesOnDrawing desk seat later answers (answers ++ record { number = n; verdict = Memory } ∷ [])
    passed (n + 1)
draws_one desk seat later answers passed n sits below of drew lt =
    let one : UnitVerdict = record { number = n; verdict = Memory } in
    let before : List ℕ = (view seat).drawn in
    let drawn : (view later).drawn ≡ before ++ n ∷ [] = ap (λ (v : View). v.drawn) drew.1 in
    let far = below n drew.0 in
    record {
      sits = (of.0.0, of.0.1, of.1 ∙ sits.2);
      draws = λ l steps first is d. record {
        sits = (of.0.0, of.0.1, of.1 ∙ sits.2);
        seats = ap (λ (v : View). v.seats) drew.1 ∙ d.seats;
        drawn = drawn ∙ (ap (λ (ns : List ℕ). ns ++ n ∷ []) d.drawn
            ∙ one_more (view first).drawn answers one);
        right = All-push (IsRightOne l steps) answers one d.right
            (subst (λ (j : Job). n < units_of j) is lt, λ u there. inr refl);
      };
      reached = λ b all.
          let h = last_below before n b (subst (λ (ns : List ℕ). All (λ y. y < b) ns) drawn all) in
          omega (arith, h);
      count = omega (arith, length_push answers one);
      far = omega (arith, length_push answers one, far);
      most = λ most. omega (arith, lt);
    }

-- and goes on from there
pub goes_on : (desk : Desk) (first second third : Seat) (none some more : List UnitVerdict)
    (passed next last : ℕ) → GoesOnDrawing desk first second none some passed next
    → GoesOnDrawing desk second third some more next last
    → GoesOnDrawing desk first third none more passed last
goes_on desk first second third none some more passed next last g h = record {
  sits = h.sits;
  draws = λ l steps start is d. h.draws l steps start is (g.draws l steps start is d);
  reached = h.reached;
  count = omega (arith, g.count, h.count);
  far = omega (arith, g.far, h.far);
  most = λ lt. h.most (g.most lt);
}

-- another verdict of the same unit changes no number
pub numbers_set : (answers : List UnitVerdict) (i : ℕ) (a d : UnitVerdict)
    → a.number ≡ (get_or answers i d).number → numbers (set answers i a) ≡ numbers answers
numbers_set answers i a d e = map-set_same (λ a. a.number) answers i a d e
