-- Checks that change their place on the way: names become partial between questions, under one budget.
use Rattle.std.specs.Prelude.{ℕ, ◌-◌, ◌≡◌, ◌++◌, Some, None}
use Rattle.lk_tree.specs.Tree.{Name}
use Rattle.lk_tree.specs.declared.rule.Rule.{Rule}
use Rattle.lk_rulebook.specs.Place.{Place, Entry}
use Rattle.lk_rulebook.specs.Units.{Members}
use Rattle.lk_questions.specs.Query.{Query, AnswerTo}
use Rattle.lk_questions.specs.Program.{Program, done, refuse, ask, look}
use Rattle.lk_questions.specs.Answer.{Outcome, answered, refused, and_then, looked_up}
use Rattle.lk_questions.specs.Sound.{IsAskable, IsJustified, IsSoundPlace}

-- with_partial ms t: from here on these names are partial too
pub data Task (A : Type 0) : Type 0 where
  done_with : A → Task A
  stopped : Rule → Task A
  asking : (q : Query) → (AnswerTo q → Task A) → Task A
  looking : Rule → Name → (Entry → Task A) → Task A
  with_partial : Members → Task A → Task A

-- a question's kind of program, at the place that stands
abbrev pub here : {A : Type 0} → Program A → Task A
here (done v) = done_with v
here (refuse r) = stopped r
here (ask q k) = asking q (λ v. here (k v))
here (look r c k) = looking r c (λ e. here (k e))

abbrev pub give_partial : Members → Task Members
give_partial ms = with_partial ms (done_with ms)

infixl 20 ◌>>=◌
abbrev pub ◌>>=◌ : {A B : Type 0} → Task A → (A → Task B) → Task B
◌>>=◌ (done_with v) k = k v
◌>>=◌ (stopped r) k = stopped r
◌>>=◌ (asking q f) k = asking q (λ v. ◌>>=◌ (f v) k)
◌>>=◌ (looking r c f) k = looking r c (λ e. ◌>>=◌ (f e) k)
◌>>=◌ (with_partial ms t) k = with_partial ms (◌>>=◌ t k)

-- the outcome, with what is partial at the end; places gives the place for what is partial
abbrev pub run_task : {A : Type 0} → (Members → Place) → (Place → (q : Query) → ℕ → Outcome (AnswerTo q)) → Members → ℕ → Task A → Outcome (A × Members)
run_task places f h left (done_with v) = answered (v, h) 0 None
run_task places f h left (stopped r) = refused r
run_task places f h left (asking q k) = and_then (f (places h) q left) (λ v c. run_task places f h (left - c) (k v))
run_task places f h left (looking r c k) = looked_up r ((places h).means c) ((places h).origin c) ((places h).flaw c) (λ e. run_task places f h left (k e))
run_task places f h left (with_partial ms t) = run_task places f (h ++ ms) left t

-- whatever true answers come, only what may be asked is asked, each place is sound, and the end has the property
abbrev pub IsSoundTask : {A : Type 0} → (Members → Place) → Members → Task A → (A → Members → Type 0) → Type 0
IsSoundTask places h (done_with v) P = P v h
IsSoundTask places h (stopped r) P = Unit {0}
IsSoundTask places h (asking q k) P = IsSoundPlace (places h) × IsAskable q × ((v : AnswerTo q) → IsJustified (places h) q v → IsSoundTask places h (k v) P)
IsSoundTask places h (looking r c k) P = (e : Entry) → (places h).means c ≡ Some e → IsSoundTask places h (k e) P
IsSoundTask places h (with_partial ms t) P = IsSoundTask places (h ++ ms) t P
