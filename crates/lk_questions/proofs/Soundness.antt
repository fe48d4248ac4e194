-- Where each question's program is sound, each answer_to_depth means what it says.
use Rattle.std.proofs.Common.{ℕ, zero, suc, ◌-◌, None}
use Rattle.lk_rulebook.specs.Place.{Place}
use Rattle.lk_questions.specs.Query.{Query, AnswerTo}
use Rattle.lk_questions.specs.Program.{Program, done, refuse, ask, look, ◌>>=◌}
use Rattle.lk_questions.specs.Answer.{Outcome, IfAnswered, outcome_of, answer_to_depth}
use Rattle.lk_questions.specs.Sound.{IsAskable, IsJustified, IsSound}
use Rattle.lk_questions.proofs.Outcomes.{if_after, if_and_then, if_found}

pub sound_run : {A : Type 0} (w : Place) (f : (q : Query) → ℕ → Outcome (AnswerTo q)) (P : A → Type 0) →
    ((q : Query) (left : ℕ) → IsAskable q → IfAnswered (f q left) (λ v c t. IsJustified w q v)) →
    (p : Program A) (left : ℕ) → IsSound w p P → IfAnswered (outcome_of w f left p) (λ v c t. P v)
sound_run w f P h (done v) left s = s
sound_run w f P h (refuse r) left s = tt
sound_run w f P h (ask q k) left s =
    if_and_then (λ v c t. IsJustified w q v) (λ v c t. P v) (f q left) (λ v c. outcome_of w f (left - c) (k v)) (h q left s.0)
    (λ v c t m. sound_run w f P h (k v) (left - c) (s.1 v m))
sound_run w f P h (look r c k) left s =
    if_found (λ v c t. P v) r (w.means c) (w.origin c) (w.flaw c) (λ e. outcome_of w f left (k e)) (λ e m. sound_run w f P h (k e) left (s e m))

pub sound_answer : (table : (q : Query) → Program (AnswerTo q)) (w : Place) →
    ((q : Query) → IsAskable q → IsSound w (table q) (IsJustified w q)) →
    (depth : ℕ) (q : Query) (left : ℕ) → IsAskable q → IfAnswered (answer_to_depth table w depth q left) (λ v c t. IsJustified w q v)
unfolding answer_to_depth
sound_answer table w h zero q left a = tt
sound_answer table w h (suc depth) q zero a = tt
sound_answer table w h (suc depth) q (suc left) a =
    if_after (λ v c t. IsJustified w q v) 1 None (outcome_of w (answer_to_depth table w depth) left (table q))
    (sound_run w (answer_to_depth table w depth) (IsJustified w q) (sound_answer table w h depth) (table q) left (h q a))

-- a program in two parts
pub sound_bind : {A B : Type 0} (w : Place) (p : Program A) (k : A → Program B) (Q : A → Type 0) (P : B → Type 0) →
    IsSound w p Q → ((v : A) → Q v → IsSound w (k v) P) → IsSound w (p >>= k) P
sound_bind w (done v) k Q P s h = h v s
sound_bind w (refuse r) k Q P s h = tt
sound_bind w (ask q f) k Q P s h = (s.0, λ v m. sound_bind w (f v) k Q P (s.1 v m) h)
sound_bind w (look r c f) k Q P s h = λ e m. sound_bind w (f e) k Q P (s e m) h

pub sound_map : {A : Type 0} (w : Place) (p : Program A) (P Q : A → Type 0) → ((v : A) → P v → Q v) → IsSound w p P → IsSound w p Q
sound_map w (done v) P Q f s = f v s
sound_map w (refuse r) P Q f s = tt
sound_map w (ask q k) P Q f s = (s.0, λ v m. sound_map w (k v) P Q f (s.1 v m))
sound_map w (look r c k) P Q f s = λ e m. sound_map w (k e) P Q f (s e m)
