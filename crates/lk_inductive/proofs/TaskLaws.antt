-- Checks that change their place agree where their places do.
use Rattle.std.proofs.Common.{ℕ, ◌≡◌, ◌+◌, ◌-◌, ◌++◌, Some, refl, ap, ◌∙◌}
use Rattle.lk_rulebook.specs.Place.{Place, Entry}
use Rattle.lk_rulebook.specs.Units.{Members}
use Rattle.lk_questions.specs.Query.{Query, AnswerTo}
use Rattle.lk_questions.specs.Answer.{Outcome, answered, after, and_then, later, IfAnswered}
use Rattle.lk_questions.specs.Laws.{IsBelow, Keeps}
use Rattle.lk_questions.proofs.Outcomes.{if_and_then, if_found, if_map, found_there}
use Rattle.lk_questions.proofs.Agreement.{later_below}
use Rattle.lk_questions.proofs.Renamed.{Renaming, Alike, SameContents, alike_then, alike_found}
use Rattle.lk_inductive.specs.Task.{Task, done_with, stopped, asking, looking, with_partial, run_task}

-- where the other places give all that units below n give at these, a check that looked at units below n alone ends the same
pub task_keeps : {A : Type 0} (n : ℕ) (places places' : Members → Place) → ((h : Members) → Keeps n (places h) (places' h)) →
    (f : Place → (q : Query) → ℕ → Outcome (AnswerTo q)) → ((h : Members) (q : Query) (b : ℕ) → IfAnswered (f (places h) q b) (λ v c t. IsBelow t n → f (places' h) q b ≡ answered v c t)) →
    (h : Members) (p : Task A) (b : ℕ) → IfAnswered (run_task places f h b p) (λ v c t. IsBelow t n → run_task places' f h b p ≡ answered v c t)
task_keeps n places places' keeps f same h (done_with v) b = λ l. refl
task_keeps n places places' keeps f same h (stopped r) b = tt
task_keeps n places places' keeps f same h (asking q k) b =
    if_and_then (λ v c t. IsBelow t n → f (places' h) q b ≡ answered v c t) (λ v c t. IsBelow t n → run_task places' f h b (asking q k) ≡ answered v c t)
    (f (places h) q b) (λ v c. run_task places f h (b - c) (k v)) (same h q b)
    (λ v c t y. if_map (λ u d s. IsBelow s n → run_task places' f h (b - c) (k v) ≡ answered u d s)
    (λ u d s. IsBelow (later t s) n → run_task places' f h b (asking q k) ≡ answered u (c + d) (later t s))
    (run_task places f h (b - c) (k v))
    (λ u d s z l. ap (λ o. and_then o (λ x m. run_task places' f h (b - m) (k x))) (y (later_below t s n l).0) ∙ ap (after c t) (z (later_below t s n l).1))
    (task_keeps n places places' keeps f same h (k v) (b - c)))
task_keeps n places places' keeps f same h (looking r c k) b =
    if_found (λ v d t. IsBelow t n → run_task places' f h b (looking r c k) ≡ answered v d t) r ((places h).means c) ((places h).origin c) ((places h).flaw c) (λ e. run_task places f h b (k e))
    (λ e m. if_map (λ u d s. IsBelow s n → run_task places' f h b (k e) ≡ answered u d s)
    (λ u d s. IsBelow (later (Some ((places h).origin c)) s) n → run_task places' f h b (looking r c k) ≡ answered u (0 + d) (later (Some ((places h).origin c)) s))
    (run_task places f h b (k e))
    (λ u d s z l.
    let kept : ((places' h).means c ≡ Some e) × ((places' h).origin c ≡ (places h).origin c) = keeps h c e m (later_below (Some ((places h).origin c)) s n l).0 in
    found_there r ((places' h).means c) ((places' h).origin c) ((places' h).flaw c) e (λ x. run_task places' f h b (k x)) kept.0
    ∙ ap (λ i. after 0 (Some i) (run_task places' f h b (k e))) kept.1
    ∙ ap (after 0 (Some ((places h).origin c))) (z (later_below (Some ((places h).origin c)) s n l).1))
    (task_keeps n places places' keeps f same h (k e) b))
task_keeps n places places' keeps f same h (with_partial ms t) b = task_keeps n places places' keeps f same (h ++ ms) t b

-- what may be asked and which names may be read, by a check
abbrev pub ReadsTask : {A : Type 0} → Renaming → (Members → Place) → Members → Task A → (A × Members → Type 0) → Type 0
ReadsTask r places h (done_with v) Q = Q (v, h)
ReadsTask r places h (stopped n) Q = Unit {0}
ReadsTask r places h (asking q k) Q = r.may_ask q × ((v : AnswerTo q) → r.may_get q v → ReadsTask r places h (k v) Q)
ReadsTask r places h (looking n c k) Q = r.may_read c × ((e : Entry) → (places h).means c ≡ Some e → ReadsTask r places h (k e) Q)
ReadsTask r places h (with_partial ms t) Q = ReadsTask r places (h ++ ms) t Q

-- places that give the same contents for each name that may be read give one outcome, but for the units looked at
pub task_alike : {A : Type 0} (r : Renaming) (places places' : Members → Place) → ((h : Members) → SameContents r (places h) (places' h)) →
    (f g : Place → (q : Query) → ℕ → Outcome (AnswerTo q)) → ((h : Members) (q : Query) (b : ℕ) → r.may_ask q → Alike (r.may_get q) (f (places h) q b) (g (places' h) q b)) →
    (h : Members) (p : Task A) (Q : A × Members → Type 0) (b : ℕ) → ReadsTask r places h p Q → Alike Q (run_task places f h b p) (run_task places' g h b p)
task_alike r places places' same f g i h (done_with v) Q b s = (refl, refl, s)
task_alike r places places' same f g i h (stopped n) Q b s = refl
task_alike r places places' same f g i h (asking q k) Q b s =
    alike_then (r.may_get q) Q (f (places h) q b) (g (places' h) q b) (λ v c. run_task places f h (b - c) (k v)) (λ v c. run_task places' g h (b - c) (k v)) (i h q b s.0)
    (λ v c m. task_alike r places places' same f g i h (k v) Q (b - c) (s.1 v m))
task_alike r places places' same f g i h (looking n c k) Q b s =
    alike_found Q n ((places h).means c) ((places' h).means c) ((places h).origin c) ((places' h).origin c) ((places h).flaw c) ((places' h).flaw c) (λ e. run_task places f h b (k e)) (λ e. run_task places' g h b (k e))
    (same h c s.0).0 (same h c s.0).1 (λ e m. task_alike r places places' same f g i h (k e) Q b (s.1 e m))
task_alike r places places' same f g i h (with_partial ms t) Q b s = task_alike r places places' same f g i (h ++ ms) t Q b s
