-- An answer_to_depth rests on what its look-ups gave alone.
use Rattle.std.proofs.Common.{ℕ, zero, suc, ◌≡◌, ◌+◌, ◌-◌, Option, Some, None, refl, ap, ◌∙◌, arith}
use Rattle.lk_rulebook.specs.Place.{Place}
use Rattle.lk_questions.specs.Query.{Query, AnswerTo}
use Rattle.lk_questions.specs.Program.{Program, done, refuse, ask, look}
use Rattle.lk_questions.specs.Answer.{Outcome, answered, after, and_then, later, IfAnswered, outcome_of, answer_to_depth, plain_answer}
use Rattle.lk_questions.specs.Laws.{IsBelow, Keeps}
use Rattle.lk_questions.proofs.Outcomes.{if_after, if_and_then, if_found, if_map, found_there}

pub later_below : (t s : Option ℕ) (n : ℕ) → IsBelow (later t s) n → IsBelow t n × IsBelow s n
later_below None s n h = (tt, h)
later_below (Some m) None n h = (h, tt)
later_below (Some m) (Some k) n h = (omega arith, omega arith)

pub run_keeps : {A : Type 0} (n : ℕ) (w w' : Place) → Keeps n w w' →
    (f g : (q : Query) → ℕ → Outcome (AnswerTo q)) →
    ((q : Query) (b : ℕ) → IfAnswered (f q b) (λ v c t. IsBelow t n → g q b ≡ answered v c t)) →
    (p : Program A) (b : ℕ) → IfAnswered (outcome_of w f b p) (λ v c t. IsBelow t n → outcome_of w' g b p ≡ answered v c t)
run_keeps n w w' keeps f g h (done v) b = λ l. refl
run_keeps n w w' keeps f g h (refuse r) b = tt
run_keeps n w w' keeps f g h (ask q k) b =
    if_and_then (λ v c t. IsBelow t n → g q b ≡ answered v c t) (λ v c t. IsBelow t n → outcome_of w' g b (ask q k) ≡ answered v c t)
    (f q b) (λ v c. outcome_of w f (b - c) (k v)) (h q b)
    (λ v c t y. if_map (λ u d s. IsBelow s n → outcome_of w' g (b - c) (k v) ≡ answered u d s)
    (λ u d s. IsBelow (later t s) n → outcome_of w' g b (ask q k) ≡ answered u (c + d) (later t s))
    (outcome_of w f (b - c) (k v))
    (λ u d s z l. ap (λ o. and_then o (λ x m. outcome_of w' g (b - m) (k x))) (y (later_below t s n l).0) ∙ ap (after c t) (z (later_below t s n l).1))
    (run_keeps n w w' keeps f g h (k v) (b - c)))
run_keeps n w w' keeps f g h (look r c k) b =
    if_found (λ v d t. IsBelow t n → outcome_of w' g b (look r c k) ≡ answered v d t) r (w.means c) (w.origin c) (w.flaw c) (λ e. outcome_of w f b (k e))
    (λ e m. if_map (λ u d s. IsBelow s n → outcome_of w' g b (k e) ≡ answered u d s)
    (λ u d s. IsBelow (later (Some (w.origin c)) s) n → outcome_of w' g b (look r c k) ≡ answered u (0 + d) (later (Some (w.origin c)) s))
    (outcome_of w f b (k e))
    (λ u d s z l.
    let kept : (w'.means c ≡ Some e) × (w'.origin c ≡ w.origin c) = keeps c e m (later_below (Some (w.origin c)) s n l).0 in
    found_there r (w'.means c) (w'.origin c) (w'.flaw c) e (λ x. outcome_of w' g b (k x)) kept.0
    ∙ ap (λ i. after 0 (Some i) (outcome_of w' g b (k e))) kept.1
    ∙ ap (after 0 (Some (w.origin c))) (z (later_below (Some (w.origin c)) s n l).1))
    (run_keeps n w w' keeps f g h (k e) b))

pub answer_keeps : (table : (q : Query) → Program (AnswerTo q)) (n : ℕ) (w w' : Place) → Keeps n w w' →
    (depth : ℕ) (q : Query) (b : ℕ) → IfAnswered (answer_to_depth table w depth q b) (λ v c t. IsBelow t n → answer_to_depth table w' depth q b ≡ answered v c t)
unfolding answer_to_depth
answer_keeps table n w w' keeps zero q b = tt
answer_keeps table n w w' keeps (suc depth) q zero = tt
answer_keeps table n w w' keeps (suc depth) q (suc b) =
    if_after (λ v c t. IsBelow t n → answer_to_depth table w' (suc depth) q (suc b) ≡ answered v c t) 1 None (outcome_of w (answer_to_depth table w depth) b (table q))
    (if_map (λ v c t. IsBelow t n → outcome_of w' (answer_to_depth table w' depth) b (table q) ≡ answered v c t)
    (λ v c t. IsBelow (later None t) n → answer_to_depth table w' (suc depth) q (suc b) ≡ answered v (1 + c) (later None t))
    (outcome_of w (answer_to_depth table w depth) b (table q))
    (λ v c t z l. ap (after 1 None) (z l))
    (run_keeps n w w' keeps (answer_to_depth table w depth) (answer_to_depth table w' depth) (answer_keeps table n w w' keeps depth) (table q) b))

-- a place that gives all that w gives below n answers as w does where the units looked at are below n
pub ans_keeps : (table : (q : Query) → Program (AnswerTo q)) (n : ℕ) (w w' : Place) → Keeps n w w' →
    (q : Query) (b : ℕ) → IfAnswered (plain_answer table w q b) (λ v c t. IsBelow t n → plain_answer table w' q b ≡ answered v c t)
ans_keeps table n w w' keeps q b = answer_keeps table n w w' keeps b q b
