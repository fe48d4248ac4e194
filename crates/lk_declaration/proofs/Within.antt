-- What is left after a program is at most what was left before it.
use Rattle.std.proofs.Common.{ℕ, ◌-◌, ◌≤◌, true, Option, None, Some, subst, arith}
use Rattle.lk_tree.specs.declared.rule.Rule.{Rule}
use Rattle.lk_rulebook.specs.Place.{Place, Entry}
use Rattle.lk_questions.specs.Query.{Query, AnswerTo, core, whnf, infer, same}
use Rattle.lk_questions.specs.Program.{Program, Table, done, refuse, ask, look}
use Rattle.lk_questions.specs.Answer.{Outcome, answered, refused, spent, plain_answer}
use Rattle.lk_questions.specs.Erased.{Value, a_tree, truth, value_of, Out, finished, stopped, used_up, seen, go_on, left_of, out_of}
use Rattle.lk_ask.specs.Asking.{Standing}
use Rattle.lk_declaration.specs.Courses.{answer_then, look_then, run_then, Goes}

-- no more is left
abbrev pub LeavesAtMost : ℕ → Out → Type 0
LeavesAtMost b (finished v left t) = left ≤ b
LeavesAtMost b (stopped r) = Unit {0}
LeavesAtMost b used_up = Unit {0}

seen_leaves : (b : ℕ) (t : Option ℕ) (o : Out) → LeavesAtMost b o → LeavesAtMost b (seen t o)
seen_leaves b t (finished v left u) h = h
seen_leaves b t (stopped r) h = tt
seen_leaves b t used_up h = tt

seen_left : (b : ℕ) (t : Option ℕ) (o : Out) → LeavesAtMost b (seen t o) → LeavesAtMost b o
seen_left b t (finished v left u) h = h
seen_left b t (stopped r) h = tt
seen_left b t used_up h = tt

answer_leaves : (b : ℕ) (q : Query) (v : Value) (left : ℕ) (k : AnswerTo q → ℕ → Out) → ((v : AnswerTo q) → LeavesAtMost b (k v left)) → LeavesAtMost b (answer_then q k v left)
answer_leaves b (core e) (a_tree t) left k h = h t
answer_leaves b (core e) (truth r) left k h = tt
answer_leaves b (whnf e) (a_tree t) left k h = h t
answer_leaves b (whnf e) (truth r) left k h = tt
answer_leaves b (infer e) (a_tree t) left k h = h t
answer_leaves b (infer e) (truth r) left k h = tt
answer_leaves b (same x y) (a_tree t) left k h = tt
answer_leaves b (same x y) (truth r) left k h = h r

asked_leaves : {A : Type 0} (c b : ℕ) (f : A → Value) (o : Outcome A) (k : Value → ℕ → Out) → b ≤ c → ((v : Value) (left : ℕ) → left ≤ c → LeavesAtMost c (k v left)) → LeavesAtMost c (go_on (left_of f b o) k)
asked_leaves c b f (answered v d t) k small h = seen_leaves c t (k (f v) (b - d)) (h (f v) (b - d) (omega arith))
asked_leaves c b f (refused r) k small h = tt
asked_leaves c b f spent k small h = tt

looked_leaves : (c : ℕ) (r : Rule) (e : Option Entry) (unit : ℕ) (flaw : Option Rule) (k : Entry → Out) → ((e : Entry) → LeavesAtMost c (k e)) → LeavesAtMost c (look_then r e unit flaw k)
looked_leaves c r None unit flaw k h = tt
looked_leaves c r (Some e) unit flaw k h = seen_leaves c (Some unit) (k e) (h e)

module _ (table : Table) (w : Place) {A : Type 0} (c : ℕ) (k : A → ℕ → Out) (next : (v : A) (left : ℕ) → left ≤ c → LeavesAtMost c (k v left)) where
  run_leaves : (p : Program A) (b : ℕ) → b ≤ c → LeavesAtMost c (run_then (out_of table w) w p b k)
  unfolding out_of
  run_leaves (done v) b small = next v b small
  run_leaves (refuse r) b small = tt
  run_leaves (ask q f) b small =
      asked_leaves c b (value_of q) (plain_answer table w q b) (answer_then q (λ v rest. run_then (out_of table w) w (f v) rest k)) small
      (λ v left less. answer_leaves c q v left (λ v rest. run_then (out_of table w) w (f v) rest k) (λ v. run_leaves (f v) left less))
  run_leaves (look r n f) b small =
      looked_leaves c r (w.means n) (w.origin n) (w.flaw n) (λ e. run_then (out_of table w) w (f e) b k) (λ e. run_leaves (f e) b small)

-- a program that gives a value leaves no more than there was
pub goes_within : {A Base : Type 0} (t : Standing Base) (p : Program A) (b : ℕ) (v : A) (left : ℕ) → Goes t p b v left → left ≤ b
goes_within {A} t p b v left goes =
    let ends : A → ℕ → Out = λ v rest. finished (truth true) rest None in
    let passes = goes.on ends in
    seen_left b passes.0 (ends v left) (subst (LeavesAtMost b) passes.1 (run_leaves t.table t.place b ends (λ v rest small. small) p b (omega arith)))
