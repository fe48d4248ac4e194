-- Where each question's program is sound, each answer means what it says; and programs that ask nothing.
use Rattle.std.proofs.Common.{ℕ, zero, suc, ◌≡◌, ◌-◌, Bool, true, false, Some, None, refl, if◌then◌else◌}
use Rattle.lk_tree.specs.declared.rule.Rule.{Rule}
use Rattle.lk_questions.specs.Query.{Query, AnswerTo}
use Rattle.lk_questions.specs.Program.{Program, done, refuse, ask, look, ◌>>=◌}
use Rattle.lk_questions.specs.Answer.{Outcome, IfAnswered, outcome_of, answer_to_depth}
use Rattle.lk_questions.specs.Sound.{IsAskable}
use Rattle.lk_questions.specs.Sound as sound
use Rattle.lk_questions.proofs.Outcomes.{if_after, if_and_then, if_found}
use Rattle.lk_questions.specs.Steps.{given}
use Rattle.lk_questions.specs.Tests.{found}
use Rattle.lk_table_sound.proofs.Book.{Book, IsJustified, IsSound}

pub sound_run : {A : Type 0} (w : Book) (f : (q : Query) → ℕ → Outcome (AnswerTo q)) (P : A → Type 0) →
    ((q : Query) (left : ℕ) → IsAskable q → IfAnswered (f q left) (λ v c t. IsJustified w q v)) →
    (p : Program A) (left : ℕ) → IsSound w p P → IfAnswered (outcome_of w.place f left p) (λ v c t. P v)
sound_run w f P h (done v) left s = s
sound_run w f P h (refuse r) left s = tt
sound_run w f P h (ask q k) left s =
    if_and_then (λ v c t. IsJustified w q v) (λ v c t. P v) (f q left) (λ v c. outcome_of w.place f (left - c) (k v)) (h q left s.0)
    (λ v c t m. sound_run w f P h (k v) (left - c) (s.1 v m))
sound_run w f P h (look r c k) left s =
    if_found (λ v c t. P v) r (w.place.means c) (w.place.origin c) (w.place.flaw c) (λ e. outcome_of w.place f left (k e)) (λ e m. sound_run w f P h (k e) left (s e m))

pub sound_answer : (table : (q : Query) → Program (AnswerTo q)) (w : Book) →
    ((q : Query) → IsAskable q → IsSound w (table q) (IsJustified w q)) →
    (depth : ℕ) (q : Query) (left : ℕ) → IsAskable q → IfAnswered (answer_to_depth table w.place depth q left) (λ v c t. IsJustified w q v)
unfolding answer_to_depth
sound_answer table w h zero q left a = tt
sound_answer table w h (suc depth) q zero a = tt
sound_answer table w h (suc depth) q (suc left) a =
    if_after (λ v c t. IsJustified w q v) 1 None (outcome_of w.place (answer_to_depth table w.place depth) left (table q))
    (sound_run w (answer_to_depth table w.place depth) (IsJustified w q) (sound_answer table w h depth) (table q) left (h q a))

-- a program in two parts
pub sound_bind : {A B : Type 0} (w : Book) (p : Program A) (k : A → Program B) (Q : A → Type 0) (P : B → Type 0) →
    IsSound w p Q → ((v : A) → Q v → IsSound w (k v) P) → IsSound w (p >>= k) P
sound_bind w (done v) k Q P s h = h v s
sound_bind w (refuse r) k Q P s h = tt
sound_bind w (ask q f) k Q P s h = (s.0, λ v m. sound_bind w (f v) k Q P (s.1 v m) h)
sound_bind w (look r c f) k Q P s h = λ e m. sound_bind w (f e) k Q P (s e m) h

pub sound_map : {A : Type 0} (w : Book) (p : Program A) (P Q : A → Type 0) → ((v : A) → P v → Q v) → IsSound w p P → IsSound w p Q
sound_map w (done v) P Q f s = f v s
sound_map w (refuse r) P Q f s = tt
sound_map w (ask q k) P Q f s = (s.0, λ v m. sound_map w (k v) P Q f (s.1 v m))
sound_map w (look r c k) P Q f s = λ e m. sound_map w (k e) P Q f (s e m)

-- p asks nothing
abbrev pub IsQuiet : {A : Type 0} → Program A → Type 0
IsQuiet (done v) = Unit {0}
IsQuiet (refuse r) = Unit {0}
IsQuiet (ask q k) = ⊥
IsQuiet (look r c k) = (e : _) → IsQuiet (k e)

-- then it is sound as it is in the rule book, and what it is done with is found at the place
pub sound_quiet : {A : Type 0} (w : Book) (p : Program A) (P : A → Type 0) → IsQuiet p → sound.IsSound w.place p P → IsSound w p (λ v. P v × (found w.place p ≡ Some v))
sound_quiet w (done v) P h s = (s, refl)
sound_quiet w (refuse r) P h s = tt
sound_quiet w (ask q k) P h s = absurd h
sound_quiet w (look r c k) P h s = λ e m. sound_map w (k e) (λ v. P v × (found w.place (k e) ≡ Some v)) (λ v. P v × (found w.place (look r c k) ≡ Some v)) (λ v x. (x.0, (rw m x.1))) (sound_quiet w (k e) P (h e) (s e m))

pub quiet_bind : {A B : Type 0} (p : Program A) (k : A → Program B) → IsQuiet p → ((v : A) → IsQuiet (k v)) → IsQuiet (p >>= k)
quiet_bind (done v) k h i = i v
quiet_bind (refuse r) k h i = tt
quiet_bind (ask q f) k h i = absurd h
quiet_bind (look r c f) k h i = λ e. quiet_bind (f e) k (h e) i

pub quiet_given : {A : Type 0} (b : Bool) (r : Rule) (p : Program A) → IsQuiet p → IsQuiet (given b r p)
quiet_given true r p h = h
quiet_given false r p h = tt

pub quiet_if : {A : Type 0} (b : Bool) (p q : Program A) → IsQuiet p → IsQuiet q → IsQuiet (if b then p else q)
quiet_if true p q h i = h
quiet_if false p q h i = i
