-- The laws of checks that change their place, for any table.
use Rattle.std.proofs.Common.{ℕ, ◌≡◌, ◌+◌, ◌-◌, ◌++◌, Option, Some, None, refl, ap, ◌∙◌, arith}
use Rattle.lk_rulebook.specs.Place.{Place, Entry}
use Rattle.lk_rulebook.specs.Units.{Members}
use Rattle.lk_tree.specs.declared.rule.Rule.{Rule}
use Rattle.lk_questions.specs.Query.{Query, AnswerTo}
use Rattle.lk_questions.specs.Program.{Program, done, refuse, ask, look}
use Rattle.lk_questions.specs.Answer.{Outcome, answered, refused, spent, after, and_then, looked_up, later, IfAnswered}
use Rattle.lk_questions.specs.Sound.{IsAskable, IsJustified, IsSound, IsSoundPlace}
use Rattle.lk_questions.specs.Laws.{IsSteady}
use Rattle.lk_questions.proofs.Outcomes.{if_and_then, if_found, if_map, found_there, and_then_same, found_same}
use Rattle.lk_questions.proofs.Budgets.{steady_ask, steady_look}
use Rattle.lk_inductive.specs.Task.{Task, done_with, stopped, asking, looking, with_partial, here, ◌>>=◌, run_task, IsSoundTask}

Asker : Type 0
Asker = (q : Query) → ℕ → Outcome (AnswerTo q)

pub sound_run_task : {A : Type 0} (places : Members → Place) (f : Place → (q : Query) → ℕ → Outcome (AnswerTo q)) (P : A → Members → Type 0) →
    ((w : Place) → IsSoundPlace w → (q : Query) (left : ℕ) → IsAskable q → IfAnswered (f w q left) (λ v c t. IsJustified w q v)) →
    (h : Members) (left : ℕ) (p : Task A) → IsSoundTask places h p P → IfAnswered (run_task places f h left p) (λ v c t. P v.0 v.1)
sound_run_task places f P ok h left (done_with v) s = s
sound_run_task places f P ok h left (stopped r) s = tt
sound_run_task places f P ok h left (asking q k) s =
    if_and_then (λ v c t. IsJustified (places h) q v) (λ v c t. P v.0 v.1) (f (places h) q left) (λ v c. run_task places f h (left - c) (k v)) (ok (places h) s.0 q left s.1)
    (λ v c t m. sound_run_task places f P ok h (left - c) (k v) (s.2 v m))
sound_run_task places f P ok h left (looking r c k) s =
    if_found (λ v c t. P v.0 v.1) r ((places h).means c) ((places h).origin c) ((places h).flaw c) (λ e. run_task places f h left (k e)) (λ e m. sound_run_task places f P ok h left (k e) (s e m))
sound_run_task places f P ok h left (with_partial ms t) s = sound_run_task places f P ok (h ++ ms) left t s

-- a program that is sound at the place that stands is sound as a task
pub sound_here : {A : Type 0} (places : Members → Place) (h : Members) (p : Program A) (P : A → Type 0) (Q : A → Members → Type 0) →
    IsSoundPlace (places h) → ((v : A) → P v → Q v h) → IsSound (places h) p P → IsSoundTask places h (here p) Q
sound_here places h (done v) P Q ok i s = i v s
sound_here places h (refuse r) P Q ok i s = tt
sound_here places h (ask q k) P Q ok i s = (ok, s.0, λ v m. sound_here places h (k v) P Q ok i (s.1 v m))
sound_here places h (look r c k) P Q ok i s = λ e m. sound_here places h (k e) P Q ok i (s e m)

pub sound_then : {A B : Type 0} (places : Members → Place) (h : Members) (p : Task A) (k : A → Task B) (Q : A → Members → Type 0) (P : B → Members → Type 0) →
    IsSoundTask places h p Q → ((v : A) (h' : Members) → Q v h' → IsSoundTask places h' (k v) P) → IsSoundTask places h (p >>= k) P
sound_then places h (done_with v) k Q P s i = i v h s
sound_then places h (stopped r) k Q P s i = tt
sound_then places h (asking q f) k Q P s i = (s.0, s.1, λ v m. sound_then places h (f v) k Q P (s.2 v m) i)
sound_then places h (looking r c f) k Q P s i = λ e m. sound_then places h (f e) k Q P (s e m) i
sound_then places h (with_partial ms t) k Q P s i = sound_then places (h ++ ms) t k Q P s i

-- under a budget of at least its cost a check ends the same, and is spent under each smaller one
pub task_steady : {A : Type 0} (places : Members → Place) (f : Place → (q : Query) → ℕ → Outcome (AnswerTo q)) →
    ((w : Place) (q : Query) (b : ℕ) → IfAnswered (f w q b) (IsSteady (f w q) b)) →
    (h : Members) (p : Task A) (b : ℕ) → IfAnswered (run_task places f h b p) (IsSteady (λ n. run_task places f h n p) b)
task_steady places f ok h (done_with v) b = record { paid = omega arith; enough = λ n l. refl; too_little = λ n l. absurd (omega arith) }
task_steady places f ok h (stopped r) b = tt
task_steady places f ok h (asking q k) b =
    if_and_then (IsSteady (f (places h) q) b) (IsSteady (λ n. run_task places f h n (asking q k)) b) (f (places h) q b) (λ v c. run_task places f h (b - c) (k v)) (ok (places h) q b)
    (λ v c t y. if_map (IsSteady (λ n. run_task places f h n (k v)) (b - c)) (λ u d s. IsSteady (λ n. run_task places f h n (asking q k)) b u (c + d) (later t s))
    (run_task places f h (b - c) (k v))
    (λ u d s z. steady_ask (f (places h) q) (λ x n. run_task places f h n (k x)) b c d t s v u y z)
    (task_steady places f ok h (k v) (b - c)))
task_steady places f ok h (looking r c k) b =
    if_found (IsSteady (λ n. run_task places f h n (looking r c k)) b) r ((places h).means c) ((places h).origin c) ((places h).flaw c) (λ e. run_task places f h b (k e))
    (λ e m. if_map (IsSteady (λ n. run_task places f h n (k e)) b) (λ u d s. IsSteady (λ n. run_task places f h n (looking r c k)) b u (0 + d) (later (Some ((places h).origin c)) s))
    (run_task places f h b (k e))
    (λ u d s z. steady_look (λ i. run_task places f h i (k e)) (λ i. run_task places f h i (looking r c k)) b d (Some ((places h).origin c)) s u
    (λ i. found_there r ((places h).means c) ((places h).origin c) ((places h).flaw c) e (λ x. run_task places f h i (k x)) m) z)
    (task_steady places f ok h (k e) b))
task_steady places f ok h (with_partial ms t) b = task_steady places f ok (h ++ ms) t b

-- two checks one after the other: what the first leaves, partial and of the budget, is the second's
later_assoc : (a b c : Option ℕ) → later a (later b c) ≡ later (later a b) c
later_assoc None b c = refl
later_assoc (Some m) None c = refl
later_assoc (Some m) (Some n) None = refl
later_assoc (Some m) (Some n) (Some k) = ap Some (omega arith)

after_after : {A : Type 0} (c d : ℕ) (t u : Option ℕ) (o : Outcome A) → after c t (after d u o) ≡ after (c + d) (later t u) o
after_after c d t u (answered v e s) = rw (← later_assoc t u s) (ap (λ n. answered v n (later t (later u s))) (omega arith))
after_after c d t u (refused r) = refl
after_after c d t u spent = refl

after_then : {A B : Type 0} (c : ℕ) (t : Option ℕ) (o : Outcome A) (k : A → ℕ → Outcome B) → after c t (and_then o (λ v d. k v (c + d))) ≡ and_then (after c t o) k
after_then c t (answered v d u) k = after_after c d t u (k v (c + d))
after_then c t (refused r) k = refl
after_then c t spent k = refl

pub and_then_then : {A B C : Type 0} (o : Outcome A) (f : A → ℕ → Outcome B) (k : B → ℕ → Outcome C) →
    and_then o (λ v c. and_then (f v c) (λ u d. k u (c + d))) ≡ and_then (and_then o f) k
and_then_then (answered v c t) f k = after_then c t (f v c) k
and_then_then (refused r) f k = refl
and_then_then spent f k = refl

then_looked : {A B : Type 0} (n : ℕ) (o : Outcome A) (k : A → ℕ → Outcome B) → after 0 (Some n) (and_then o k) ≡ and_then (after 0 (Some n) o) k
then_looked n (answered v d u) k = ap (λ c. after 0 (Some n) (after d u (k v c))) (omega arith) ∙ after_after 0 d (Some n) u (k v (0 + d))
then_looked n (refused r) k = refl
then_looked n spent k = refl

pub then_found : {A B : Type 0} (r : Rule) (m : Option Entry) (n : ℕ) (fl : Option Rule) (f : Entry → Outcome A) (k : A → ℕ → Outcome B) →
    looked_up r m n fl (λ e. and_then (f e) k) ≡ and_then (looked_up r m n fl f) k
then_found r None n fl f k = refl
then_found r (Some e) n fl f k = then_looked n (f e) k

pub after_none : {A : Type 0} (o : Outcome A) → after 0 None o ≡ o
after_none (answered v c t) = ap (λ n. answered v n t) (omega arith)
after_none (refused r) = refl
after_none spent = refl

left_zero : {B : Type 0} (places : Members → Place) (f : Place → (q : Query) → ℕ → Outcome (AnswerTo q)) (h : Members) (left : ℕ) (t : Task B) → after 0 None (run_task places f h (left - 0) t) ≡ run_task places f h left t
left_zero places f h left t = after_none (run_task places f h (left - 0) t) ∙ ap (λ n. run_task places f h n t) (omega arith)

from_left : {A : Type 0} {a b : A} → a ≡ b → b ≡ a
from_left e = cc

pub run_then : {A B : Type 0} (places : Members → Place) (f : Place → (q : Query) → ℕ → Outcome (AnswerTo q)) (h : Members) (left : ℕ) (p : Task A) (k : A → Task B) →
    run_task places f h left (p >>= k) ≡ and_then (run_task places f h left p) (λ v c. run_task places f v.1 (left - c) (k v.0))
run_then places f h left (done_with v) k = from_left (left_zero places f h left (k v))
run_then places f h left (stopped r) k = refl
run_then places f h left (asking q g) k =
    and_then_same (f (places h) q left) (λ v c. run_task places f h (left - c) (g v >>= k)) _
    (λ v c. run_then places f h (left - c) (g v) k
    ∙ and_then_same (run_task places f h (left - c) (g v)) (λ u d. run_task places f u.1 (left - c - d) (k u.0)) (λ u d. run_task places f u.1 (left - (c + d)) (k u.0))
    (λ u d. ap (λ n. run_task places f u.1 n (k u.0)) (omega arith)))
    ∙ and_then_then (f (places h) q left) (λ v c. run_task places f h (left - c) (g v)) (λ v c. run_task places f v.1 (left - c) (k v.0))
run_then places f h left (looking r c g) k =
    found_same r ((places h).means c) ((places h).origin c) ((places h).flaw c) (λ e. run_task places f h left (g e >>= k)) _ (λ e. run_then places f h left (g e) k)
    ∙ then_found r ((places h).means c) ((places h).origin c) ((places h).flaw c) (λ e. run_task places f h left (g e)) (λ v c. run_task places f v.1 (left - c) (k v.0))
run_then places f h left (with_partial ms t) k = run_then places f (h ++ ms) left t k
