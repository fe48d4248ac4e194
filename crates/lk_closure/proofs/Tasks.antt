-- Checks that make names partial keep to a set of names, and then go alike in two libraries.
use Rattle.std.proofs.Common.{ℕ, ◌-◌, ◌++◌, refl}
use Rattle.lk_tree.specs.Tree.{Name}
use Rattle.lk_rulebook.specs.Place.{Entry}
use Rattle.lk_rulebook.specs.Units.{Library, Members, place_of}
use Rattle.lk_questions.specs.Query.{AnswerTo}
use Rattle.lk_questions.specs.Program.{Program, done, refuse, ask, look}
use Rattle.lk_questions.specs.Answer.{plain_answer}
use Rattle.lk_questions.specs.Program.{Table}
use Rattle.lk_questions.proofs.Renamed.{SameContents, Alike, alike_then, alike_found}
use Rattle.lk_inductive.specs.Task.{Task, done_with, stopped, asking, looking, with_partial, here, ◌>>=◌, run_task}
use Rattle.lk_closure.proofs.Names.{EntryOver, IsClosed, HasBuiltins}
use Rattle.lk_closure.proofs.Within.{QueryOver, AnswerOver, Within, KeepsTo}
use Rattle.lk_closure.proofs.Over.{IsSeenAlike}
use Rattle.lk_closure.proofs.Agree.{reading, answers_alike, places_alike}
use Rattle.lk_closure.proofs.Entries.{MembersOver, members_append}

abbrev pub WithinTask : {A : Type 0} → (Name → Type 0) → Task A → (A → Type 0) → Type 0
WithinTask P (done_with v) Q = Q v
WithinTask P (stopped r) Q = Unit {0}
WithinTask P (asking q k) Q = QueryOver P q × ((v : AnswerTo q) → AnswerOver P q v → WithinTask P (k v) Q)
WithinTask P (looking r c k) Q = P c × ((e : Entry) → EntryOver P e → WithinTask P (k e) Q)
WithinTask P (with_partial ms t) Q = MembersOver P ms × WithinTask P t Q

pub within_here : {A : Type 0} (P : Name → Type 0) (p : Program A) (Q : A → Type 0) → Within P p Q → WithinTask P (here p) Q
within_here P (done v) Q h = h
within_here P (refuse r) Q h = tt
within_here P (ask q k) Q h = (h.0, λ v a. within_here P (k v) Q (h.1 v a))
within_here P (look r c k) Q h = (h.0, λ e o. within_here P (k e) Q (h.1 e o))

pub within_then_task : {A B : Type 0} (P : Name → Type 0) (t : Task A) (k : A → Task B) (R : A → Type 0) (Q : B → Type 0) → WithinTask P t R → ((v : A) → R v → WithinTask P (k v) Q) → WithinTask P (t >>= k) Q
within_then_task P (done_with v) k R Q h f = f v h
within_then_task P (stopped r) k R Q h f = tt
within_then_task P (asking q g) k R Q h f = (h.0, λ v a. within_then_task P (g v) k R Q (h.1 v a) f)
within_then_task P (looking r c g) k R Q h f = (h.0, λ e o. within_then_task P (g e) k R Q (h.1 e o) f)
within_then_task P (with_partial ms t) k R Q h f = (h.0, within_then_task P t k R Q h.1 f)

pub tasks_alike : {A : Type 0} (P : Name → Type 0) (table : Table) → KeepsTo P table → HasBuiltins P → (us vs : Library) (n m : ℕ) → IsSeenAlike P us n vs m → ((h : Members) → MembersOver P h → IsClosed P (place_of us n h)) →
    (t : Task A) (Q : A → Type 0) (h : Members) (b : ℕ) → MembersOver P h → WithinTask P t Q →
    Alike (λ x. Q x.0) (run_task (place_of us n) (λ w. plain_answer table w) h b t) (run_task (place_of vs m) (λ w. plain_answer table w) h b t)
tasks_alike P table st u us vs n m seen cl (done_with v) Q h b o w = (refl, refl, w)
tasks_alike P table st u us vs n m seen cl (stopped r) Q h b o w = refl
tasks_alike P table st u us vs n m seen cl (asking q k) Q h b o w =
    alike_then (AnswerOver P q) (λ x. Q x.0) (plain_answer table (place_of us n h) q b) (plain_answer table (place_of vs m h) q b)
    (λ v c. run_task (place_of us n) (λ p. plain_answer table p) h (b - c) (k v)) (λ v c. run_task (place_of vs m) (λ p. plain_answer table p) h (b - c) (k v))
    (answers_alike P table st u (place_of us n h) (place_of vs m h) (cl h o) (places_alike P us vs n m h seen) q b w.0)
    (λ v c a. tasks_alike P table st u us vs n m seen cl (k v) Q h (b - c) o (w.1 v a))
tasks_alike P table st u us vs n m seen cl (looking r c k) Q h b o w =
    let s : SameContents (reading P) (place_of us n h) (place_of vs m h) = places_alike P us vs n m h seen in
    alike_found (λ x. Q x.0) r ((place_of us n h).means c) ((place_of vs m h).means c) ((place_of us n h).origin c) ((place_of vs m h).origin c) ((place_of us n h).flaw c) ((place_of vs m h).flaw c)
    (λ e. run_task (place_of us n) (λ p. plain_answer table p) h b (k e)) (λ e. run_task (place_of vs m) (λ p. plain_answer table p) h b (k e)) (s c w.0).0 (s c w.0).1
    (λ e g. tasks_alike P table st u us vs n m seen cl (k e) Q h b o (w.1 e (cl h o c e w.0 g)))
tasks_alike P table st u us vs n m seen cl (with_partial ms t) Q h b o w = tasks_alike P table st u us vs n m seen cl t Q (h ++ ms) b (members_append P h ms o w.0) w.1
