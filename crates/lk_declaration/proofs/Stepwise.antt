-- A program's run with nothing after it is the run of its steps.
use Rattle.std.proofs.Common.{◌≡◌, ℕ, true, Option, None, Some, refl, sym, ap, ◌∙◌}
use Rattle.lk_tree.specs.declared.rule.Rule.{Rule}
use Rattle.lk_rulebook.specs.Place.{Place, Entry}
use Rattle.lk_questions.specs.Query.{Query, AnswerTo, core, whnf, infer, same}
use Rattle.lk_questions.specs.Program.{Program, done, refuse, ask, look}
use Rattle.lk_questions.specs.Answer.{later}
use Rattle.lk_questions.specs.Erased.{Value, a_tree, truth, Steps, with_answer, looked, erased, Out, finished, seen, run_steps, out_of}
use Rattle.lk_questions.proofs.Erasing.{later_none, seen_seen, seen_none}
use Rattle.lk_declaration.specs.Courses.{answer_then, look_then, run_then, CoursesAreSteps}
use Rattle.lk_declaration.proofs.Running.{go_on_same}

module _ (answer : Query → ℕ → Out) (w : Place) where
  answered_same : (q : Query) (s : AnswerTo q → Steps) (k : AnswerTo q → ℕ → Out) → ((v : AnswerTo q) (left : ℕ) → run_steps answer (s v) left ≡ k v left) → (v : Value) (left : ℕ) → run_steps answer (with_answer q s v) left ≡ answer_then q k v left
  answered_same (core e) s k h (a_tree t) left = h t left
  answered_same (core e) s k h (truth b) left = refl
  answered_same (whnf e) s k h (a_tree t) left = h t left
  answered_same (whnf e) s k h (truth b) left = refl
  answered_same (infer e) s k h (a_tree t) left = h t left
  answered_same (infer e) s k h (truth b) left = refl
  answered_same (same a b) s k h (a_tree t) left = refl
  answered_same (same a b) s k h (truth r) left = h r left

  looked_same : (r : Rule) (t : Option ℕ) (e : Option Entry) (unit : ℕ) (flaw : Option Rule) (s : Option ℕ → Entry → Steps) (k : Entry → Out) (b : ℕ) → ((u : Option ℕ) (e : Entry) → run_steps answer (s u e) b ≡ seen u (k e))
      → run_steps answer (looked r t e unit flaw s) b ≡ seen t (look_then r e unit flaw k)
  looked_same r t None unit flaw s k b h = refl
  looked_same r t (Some e) unit flaw s k b h = h (later t (Some unit)) e ∙ sym (seen_seen t (Some unit) (k e))

  pub steps_from : {A : Type 0} (f : A → Value) (t : Option ℕ) (p : Program A) (b : ℕ) → run_steps answer (erased w f t p) b ≡ seen t (run_then answer w p b (λ v left. finished (f v) left None))
  steps_from f t (done v) b = ap (finished (f v) b) (sym (later_none t))
  steps_from f t (refuse r) b = refl
  steps_from f t (ask q k) b =
      ap (seen t) (go_on_same (answer q b) (λ v left. run_steps answer (with_answer q (λ u. erased w f None (k u)) v) left) (answer_then q (λ v left. run_then answer w (k v) left (λ v left. finished (f v) left None)))
      (answered_same q (λ u. erased w f None (k u)) (λ v left. run_then answer w (k v) left (λ v left. finished (f v) left None)) (λ v left. steps_from f None (k v) left ∙ seen_none (run_then answer w (k v) left (λ v left. finished (f v) left None)))))
  steps_from f t (look r c k) b =
      looked_same r t (w.means c) (w.origin c) (w.flaw c) (λ u e. erased w f u (k e)) (λ e. run_then answer w (k e) b (λ v left. finished (f v) left None)) b (λ u e. steps_from f u (k e) b)

pub courses_are_steps : CoursesAreSteps
courses_are_steps table w p b = steps_from (out_of table w) w (λ y. truth true) None p b ∙ seen_none (run_then (out_of table w) w p b (λ y left. finished (truth true) left None))
