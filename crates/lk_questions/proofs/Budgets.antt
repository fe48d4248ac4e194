-- Budgets, depths and places.
use Rattle.std.proofs.Common.{ℕ, zero, suc, ◌≡◌, ◌<◌, ◌≤◌, ◌+◌, ◌-◌, ◌⊎◌, inl, inr, Option, Some, None, refl, ap, ◌∙◌, arith}
use Rattle.lk_rulebook.specs.Place.{Place}
use Rattle.lk_questions.specs.Query.{Query, AnswerTo}
use Rattle.lk_questions.specs.Program.{Program, done, refuse, ask, look}
use Rattle.lk_questions.specs.Answer.{Outcome, answered, spent, after, and_then, later, IfAnswered, outcome_of, answer_to_depth, plain_answer}
use Rattle.lk_questions.specs.Laws.{IsSteady}
use Rattle.lk_questions.proofs.Outcomes.{if_after, if_and_then, if_found, if_map, of_answered, and_then_same, found_same, found_there}

Asker : Type 0
Asker = (q : Query) → ℕ → Outcome (AnswerTo q)

less_or_not : (a b : ℕ) → (a < b) ⊎ (b ≤ a)
less_or_not a b = grind arith

pub steady_ask : {A B : Type 0} (g : ℕ → Outcome A) (h : A → ℕ → Outcome B) (b c d : ℕ) (t s : Option ℕ) (v : A) (u : B) →
    IsSteady g b v c t → IsSteady (h v) (b - c) u d s →
    IsSteady (λ n. and_then (g n) (λ x m. h x (n - m))) b u (c + d) (later t s)
steady_ask g h b c d t s v u y z = record {
  paid = omega (arith, y.paid, z.paid);
  enough = λ n l. ap (λ o. and_then o (λ x m. h x (n - m))) (y.enough n (omega arith)) ∙ ap (after c t) (z.enough (n - c) (omega arith));
  too_little = λ n l. elim (less_or_not n c) [
    | inl a ↦ ap (λ o. and_then o (λ x m. h x (n - m))) (y.too_little n a)
    | inr a ↦ ap (λ o. and_then o (λ x m. h x (n - m))) (y.enough n a) ∙ ap (after c t) (z.too_little (n - c) (omega arith))
  ];
}

pub steady_look : {A : Type 0} (g : ℕ → Outcome A) (o : ℕ → Outcome A) (b d : ℕ) (t s : Option ℕ) (u : A) →
    ((n : ℕ) → o n ≡ after 0 t (g n)) → IsSteady g b u d s → IsSteady o b u (0 + d) (later t s)
steady_look g o b d t s u e z = record {
  paid = omega (arith, z.paid);
  enough = λ n l. e n ∙ ap (after 0 t) (z.enough n (omega arith));
  too_little = λ n l. e n ∙ ap (after 0 t) (z.too_little n (omega arith));
}

pub run_steady : {A : Type 0} (w : Place) (f : (q : Query) → ℕ → Outcome (AnswerTo q)) →
    ((q : Query) (b : ℕ) → IfAnswered (f q b) (IsSteady (f q) b)) →
    (p : Program A) (b : ℕ) → IfAnswered (outcome_of w f b p) (IsSteady (λ n. outcome_of w f n p) b)
run_steady w f h (done v) b = record { paid = omega arith; enough = λ n l. refl; too_little = λ n l. absurd (omega arith) }
run_steady w f h (refuse r) b = tt
run_steady w f h (ask q k) b =
    if_and_then (IsSteady (f q) b) (IsSteady (λ n. outcome_of w f n (ask q k)) b) (f q b) (λ v c. outcome_of w f (b - c) (k v)) (h q b)
    (λ v c t y. if_map (IsSteady (λ n. outcome_of w f n (k v)) (b - c)) (λ u d s. IsSteady (λ n. outcome_of w f n (ask q k)) b u (c + d) (later t s))
    (outcome_of w f (b - c) (k v))
    (λ u d s z. steady_ask (f q) (λ x n. outcome_of w f n (k x)) b c d t s v u y z)
    (run_steady w f h (k v) (b - c)))
run_steady w f h (look r c k) b =
    if_found (IsSteady (λ n. outcome_of w f n (look r c k)) b) r (w.means c) (w.origin c) (w.flaw c) (λ e. outcome_of w f b (k e))
    (λ e m. if_map (IsSteady (λ n. outcome_of w f n (k e)) b) (λ u d s. IsSteady (λ n. outcome_of w f n (look r c k)) b u (0 + d) (later (Some (w.origin c)) s))
    (outcome_of w f b (k e))
    (λ u d s z. steady_look (λ i. outcome_of w f i (k e)) (λ i. outcome_of w f i (look r c k)) b d (Some (w.origin c)) s u
    (λ i. found_there r (w.means c) (w.origin c) (w.flaw c) e (λ x. outcome_of w f i (k x)) m) z)
    (run_steady w f h (k e) b))

-- at a fixed depth
steady_after : {A : Type 0} (g o : ℕ → Outcome A) (b d : ℕ) (s : Option ℕ) (u : A) →
    (o zero ≡ spent) → ((n : ℕ) → o (suc n) ≡ after 1 None (g n)) → IsSteady g b u d s → IsSteady o (suc b) u (1 + d) (later None s)
steady_after g o b d s u e0 e z = record {
  paid = omega (arith, z.paid);
  enough = elim [ zero ↦ λ l. absurd (omega arith) | suc n ↦ λ l. e n ∙ ap (after 1 None) (z.enough n (omega arith)) ];
  too_little = elim [ zero ↦ λ l. e0 | suc n ↦ λ l. e n ∙ ap (after 1 None) (z.too_little n (omega arith)) ];
}

pub answer_steady : (table : (q : Query) → Program (AnswerTo q)) (w : Place) (depth : ℕ) (q : Query) (b : ℕ) →
    IfAnswered (answer_to_depth table w depth q b) (IsSteady (answer_to_depth table w depth q) b)
unfolding answer_to_depth
answer_steady table w zero q b = tt
answer_steady table w (suc depth) q zero = tt
answer_steady table w (suc depth) q (suc b) =
    if_after (IsSteady (answer_to_depth table w (suc depth) q) (suc b)) 1 None (outcome_of w (answer_to_depth table w depth) b (table q))
    (if_map (IsSteady (λ n. outcome_of w (answer_to_depth table w depth) n (table q)) b) (λ u d s. IsSteady (answer_to_depth table w (suc depth) q) (suc b) u (1 + d) (later None s))
    (outcome_of w (answer_to_depth table w depth) b (table q))
    (λ u d s z. steady_after (λ n. outcome_of w (answer_to_depth table w depth) n (table q)) (answer_to_depth table w (suc depth) q) b d s u refl (λ n. refl) z)
    (run_steady w (answer_to_depth table w depth) (answer_steady table w depth) (table q) b))

-- two askers that agree up to a budget
pub run_same : {A : Type 0} (w : Place) (f g : (q : Query) → ℕ → Outcome (AnswerTo q)) (most : ℕ) →
    ((q : Query) (b : ℕ) → b ≤ most → f q b ≡ g q b) →
    (p : Program A) (b : ℕ) → b ≤ most → outcome_of w f b p ≡ outcome_of w g b p
run_same w f g most h (done v) b l = refl
run_same w f g most h (refuse r) b l = refl
run_same w f g most h (ask q k) b l =
    ap (λ o. and_then o (λ v c. outcome_of w f (b - c) (k v))) (h q b l)
    ∙ and_then_same (g q b) (λ v c. outcome_of w f (b - c) (k v)) (λ v c. outcome_of w g (b - c) (k v)) (λ v c. run_same w f g most h (k v) (b - c) (omega arith))
run_same w f g most h (look r c k) b l =
    found_same r (w.means c) (w.origin c) (w.flaw c) (λ e. outcome_of w f b (k e)) (λ e. outcome_of w g b (k e)) (λ e. run_same w f g most h (k e) b l)

-- a depth of at least the budget changes nothing
pub answer_depth : (table : (q : Query) → Program (AnswerTo q)) (w : Place) (m n : ℕ) (q : Query) (b : ℕ) → b ≤ m → b ≤ n →
    answer_to_depth table w m q b ≡ answer_to_depth table w n q b
unfolding answer_to_depth
answer_depth table w zero zero q b h l = refl
answer_depth table w zero (suc n) q zero h l = refl
answer_depth table w zero (suc n) q (suc b) h l = absurd (omega arith)
answer_depth table w (suc m) zero q zero h l = refl
answer_depth table w (suc m) zero q (suc b) h l = absurd (omega arith)
answer_depth table w (suc m) (suc n) q zero h l = refl
answer_depth table w (suc m) (suc n) q (suc b) h l =
    ap (after 1 None) (run_same w (answer_to_depth table w m) (answer_to_depth table w n) b
    (λ q' b' l'. answer_depth table w m n q' b' (omega arith) (omega arith)) (table q) b (omega arith))

-- the equations of plain answers
pub ans_zero : (table : (q : Query) → Program (AnswerTo q)) (w : Place) (q : Query) → plain_answer table w q 0 ≡ spent
unfolding answer_to_depth
ans_zero table w q = refl

pub ans_suc : (table : (q : Query) → Program (AnswerTo q)) (w : Place) (q : Query) (b : ℕ) →
    plain_answer table w q (suc b) ≡ after 1 None (outcome_of w (plain_answer table w) b (table q))
unfolding answer_to_depth
ans_suc table w q b =
    ap (after 1 None) (run_same w (answer_to_depth table w b) (plain_answer table w) b
    (λ q' b' l'. answer_depth table w b b' q' b' l' (omega arith)) (table q) b (omega arith))

ans_steady_from : (table : (q : Query) → Program (AnswerTo q)) (w : Place) (q : Query) (b : ℕ) (v : AnswerTo q) (c : ℕ) (t : Option ℕ) →
    IsSteady (answer_to_depth table w b q) b v c t → IsSteady (plain_answer table w q) b v c t
ans_steady_from table w q b v c t z = record {
  paid = z.paid;
  enough = λ n l.
      let deep : ℕ = b + n in
      let here : answer_to_depth table w deep q b ≡ answered v c t = answer_depth table w deep b q b (omega arith) (omega arith) ∙ z.enough b z.paid in
      let y : IsSteady (answer_to_depth table w deep q) b v c t = of_answered (IsSteady (answer_to_depth table w deep q) b) (answer_to_depth table w deep q b) v c t here (answer_steady table w deep q b) in
      answer_depth table w n deep q n (omega arith) (omega arith) ∙ y.enough n l;
  too_little = λ n l. answer_depth table w n b q n (omega arith) (omega (arith, z.paid)) ∙ z.too_little n l;
}

pub ans_steady : (table : (q : Query) → Program (AnswerTo q)) (w : Place) (q : Query) (b : ℕ) → IfAnswered (plain_answer table w q b) (IsSteady (plain_answer table w q) b)
ans_steady table w q b =
    if_map (IsSteady (answer_to_depth table w b q) b) (IsSteady (plain_answer table w q) b) (plain_answer table w q b)
    (λ v c t z. ans_steady_from table w q b v c t z) (answer_steady table w b q b)
