-- A program's run by cost is its run by what is left, once types are forgotten.
use Rattle.std.proofs.Common.{ℕ, zero, suc, ◌≡◌, ◌<◌, ◌+◌, ◌-◌, max, Option, Some, None, refl, ap, sym, ◌∙◌, arith}
use Rattle.lk_tree.specs.declared.rule.Rule.{Rule}
use Rattle.lk_rulebook.specs.Place.{Place, Entry}
use Rattle.lk_questions.specs.Query.{Query, AnswerTo, core, whnf, infer, same}
use Rattle.lk_questions.specs.Program.{Program, Table, done, refuse, ask, look}
use Rattle.lk_questions.specs.Answer.{Outcome, answered, refused, spent, later, after, and_then, looked_up, outcome_of, answer_to_depth, plain_answer}
use Rattle.lk_questions.proofs.Budgets.{ans_suc}
use Rattle.lk_questions.specs.Erased.{Value, value_of, Steps, with_answer, looked, erased, Out, finished, stopped, used_up, seen, go_on, run_steps, left_of, out_of, steps_of}

-- an answer_to_depth goes to what waits for it
answer_goes : (q : Query) (k : AnswerTo q → Steps) (v : AnswerTo q) → with_answer q k (value_of q v) ≡ k v
answer_goes (core e) k v = refl
answer_goes (whnf e) k v = refl
answer_goes (infer e) k v = refl
answer_goes (same a b) k v = refl

-- which unit is later is associative
later_later : (s t u : Option ℕ) → later s (later t u) ≡ later (later s t) u
later_later None t u = refl
later_later (Some l) None u = refl
later_later (Some l) (Some m) None = refl
later_later (Some l) (Some m) (Some n) = ap Some (let e : max l (max m n) ≡ max (max l m) n = omega arith in e)

pub later_none : (t : Option ℕ) → later t None ≡ t
later_none None = refl
later_none (Some m) = refl

pub seen_seen : (s t : Option ℕ) (o : Out) → seen s (seen t o) ≡ seen (later s t) o
seen_seen s t (finished v left u) = ap (finished v left) (later_later s t u)
seen_seen s t (stopped r) = refl
seen_seen s t used_up = refl

pub seen_none : (o : Out) → seen None o ≡ o
seen_none (finished v left u) = refl
seen_none (stopped r) = refl
seen_none used_up = refl

-- what is seen before goes on with what waits
pub seen_goes : (t : Option ℕ) (o : Out) (k : Value → ℕ → Out) → go_on (seen t o) k ≡ seen t (go_on o k)
seen_goes t (finished v left u) k = sym (seen_seen t u (k v left))
seen_goes t (stopped r) k = refl
seen_goes t used_up k = refl

left_after : {A : Type 0} (f : A → Value) (b c : ℕ) (t : Option ℕ) (o : Outcome A) → left_of f b (after c t o) ≡ seen t (left_of f (b - c) o)
left_after f b c t (answered v d u) = let e : b - (c + d) ≡ (b - c) - d = omega arith in ap (λ n. finished (f v) n (later t u)) e
left_after f b c t (refused r) = refl
left_after f b c t spent = refl

left_and_then : {A B : Type 0} (f : A → Value) (g : B → Value) (b : ℕ) (o : Outcome A) (next : A → ℕ → Outcome B) (k : Value → ℕ → Out)
    → ((v : A) (c : ℕ) → left_of g (b - c) (next v c) ≡ k (f v) (b - c)) → left_of g b (and_then o next) ≡ go_on (left_of f b o) k
left_and_then f g b (answered v c t) next k h = left_after g b c t (next v c) ∙ ap (seen t) (h v c)
left_and_then f g b (refused r) next k h = refl
left_and_then f g b spent next k h = refl

left_found : {A : Type 0} (f : A → Value) (b n : ℕ) (t : Option ℕ) (m : Option Entry) (fl : Option Rule) (next : Entry → Outcome A) (r : Rule) (p : Option ℕ → Entry → Steps) (a : Query → ℕ → Out)
    → ((u : Option ℕ) (e : Entry) → seen u (left_of f b (next e)) ≡ run_steps a (p u e) b) → seen t (left_of f b (looked_up r m n fl next)) ≡ run_steps a (looked r t m n fl p) b
left_found f b n t None fl next r p a h = refl
left_found f b n t (Some e) fl next r p a h =
    ap (seen t) (left_after f b 0 (Some n) (next e) ∙ (let z : b - 0 ≡ b = omega arith in ap (λ x. seen (Some n) (left_of f x (next e))) z))
    ∙ seen_seen t (Some n) (left_of f b (next e)) ∙ h (later t (Some n)) e

-- a program's run after units were looked at of which t is the last
pub run_erased_from : {A : Type 0} (table : Table) (w : Place) (f : A → Value) (t : Option ℕ) (p : Program A) (b : ℕ) → seen t (left_of f b (outcome_of w (plain_answer table w) b p)) ≡ run_steps (out_of table w) (erased w f t p) b
unfolding out_of
run_erased_from table w f t (done v) b = let z : b - 0 ≡ b = omega arith in ap (λ n. finished (f v) n (later t None)) z ∙ ap (finished (f v) b) (later_none t)
run_erased_from table w f t (refuse r) b = refl
run_erased_from table w f t (ask q k) b =
    ap (seen t) (left_and_then (value_of q) f b (plain_answer table w q b) (λ v c. outcome_of w (plain_answer table w) (b - c) (k v)) (λ v rest. run_steps (out_of table w) (with_answer q (λ u. erased w f None (k u)) v) rest)
    (λ v c. sym (seen_none (left_of f (b - c) (outcome_of w (plain_answer table w) (b - c) (k v)))) ∙ run_erased_from table w f None (k v) (b - c) ∙ ap (λ s. run_steps (out_of table w) s (b - c)) (sym (answer_goes q (λ u. erased w f None (k u)) v))))
run_erased_from table w f t (look r c k) b =
    left_found f b (w.origin c) t (w.means c) (w.flaw c) (λ e. outcome_of w (plain_answer table w) b (k e)) r (λ u e. erased w f u (k e)) (out_of table w) (λ u e. run_erased_from table w f u (k e) b)

pub run_erased : {A : Type 0} (table : Table) (w : Place) (f : A → Value) (p : Program A) (b : ℕ) → left_of f b (outcome_of w (plain_answer table w) b p) ≡ run_steps (out_of table w) (erased w f None p) b
run_erased table w f p b = sym (seen_none (left_of f b (outcome_of w (plain_answer table w) b p))) ∙ run_erased_from table w f None p b

-- where t is the last unit that was looked at before, the run is as from the beginning, with t seen
pub run_from : {A : Type 0} (table : Table) (w : Place) (f : A → Value) (t : Option ℕ) (p : Program A) (b : ℕ) → run_steps (out_of table w) (erased w f t p) b ≡ seen t (run_steps (out_of table w) (erased w f None p) b)
run_from table w f t p b = sym (run_erased_from table w f t p b) ∙ ap (seen t) (run_erased table w f p b)

-- nothing is answered with nothing left
pub out-zero : (table : Table) (w : Place) (q : Query) → out_of table w q 0 ≡ used_up
unfolding out_of answer_to_depth
out-zero table w q = refl

-- a question costs 1, and what it asks is asked with what is left
pub out-suc : (table : Table) (w : Place) (q : Query) (b : ℕ) → out_of table w q (suc b) ≡ run_steps (out_of table w) (steps_of table w q) b
unfolding out_of
out-suc table w q b =
    ap (left_of (value_of q) (suc b)) (ans_suc table w q b)
    ∙ left_after (value_of q) (suc b) 1 None (outcome_of w (plain_answer table w) b (table q))
    ∙ seen_none (left_of (value_of q) (suc b - 1) (outcome_of w (plain_answer table w) b (table q)))
    ∙ (let z : suc b - 1 ≡ b = omega arith in ap (λ x. left_of (value_of q) x (outcome_of w (plain_answer table w) b (table q))) z)
    ∙ run_erased table w (value_of q) (table q) b

pub out-step : (table : Table) (w : Place) (q : Query) (b : ℕ) → 0 < b → out_of table w q b ≡ run_steps (out_of table w) (steps_of table w q) (b - 1)
out-step table w q zero h = absurd (omega arith)
out-step table w q (suc b) h = out-suc table w q b ∙ ap (run_steps (out_of table w) (steps_of table w q)) (let e : b ≡ suc b - 1 = omega arith in e)

pub out-none : (table : Table) (w : Place) (q : Query) (b : ℕ) → b ≡ 0 → out_of table w q b ≡ used_up
out-none table w q b none = rw none (out-zero table w q)
