-- What a declaration's questions answer, as a verdict.
use Rattle.std.proofs.Common.{◌≡◌, ℕ, suc, List, inl, inr, true, Ok, Err, Result, Option, None, refl, ap, sym, subst, ◌∙◌}
use Rattle.lk_tree.specs.declared.rule.Rule.{Rule}
use Rattle.lk_rulebook.specs.Place.{Place, Block, BlockRecursor}
use Rattle.lk_rulebook.specs.Units.{Decl}
use Rattle.lk_questions.specs.Program.{Table}
use Rattle.lk_questions.specs.Answer.{Outcome, answered, refused, spent, outcome_of, plain_answer}
use Rattle.lk_questions.specs.Erased.{Out, Value, truth, finished, stopped, used_up, left_of, out_of}
use Rattle.lk_questions.proofs.Erasing.{run_erased}
use Rattle.lk_questions.specs.Declarations.{checked, unit_steps}
use Rattle.lk_questions.specs.Table.{steps}
use Rattle.lk_verdict.specs.Told.{accepted, rejected, out_of_steps}
use Rattle.lk_ask.specs.declared.stop.Stop.{Stop}
use Rattle.lk_ask.specs.declared.stop.Stop.TheVariants.{No, Spent, NoMemory}
use Rattle.lk_ask.specs.Asking.{Standing}
use Rattle.lk_declaration.specs.Courses.{run_then, ComesTo}
use Rattle.lk_declaration.specs.Checked.{IsCheckOutcome}
use Rattle.lk_declaration.proofs.Settled.{checked_on, checked_stop}
use Rattle.lk_declaration.proofs.Stepwise.{courses_are_steps}
use Rattle.lk_block.specs.Stages.{Places, block_stages, ends}
use Rattle.leancheck.specs.Rows.{verdict_of, questions_of, stages_verdict}
use Rattle.leancheck.specs.Held.{IsPlain, result_verdict}

out_accepted : {A : Type 0} (f : A → Value) (b l : ℕ) (v : Value) (last : Option ℕ) (o : Outcome A) → left_of f b o ≡ finished v l last → verdict_of o ≡ accepted
out_accepted f b l v last (answered a c t) e = refl
out_accepted f b l v last (refused r) e = absurd (cc)
out_accepted f b l v last spent e = absurd (cc)

out_rejected : {A : Type 0} (f : A → Value) (b : ℕ) (r : Rule) (o : Outcome A) → left_of f b o ≡ stopped r → verdict_of o ≡ rejected r
out_rejected f b r (answered a c t) e = absurd (cc)
out_rejected f b r (refused s) e = let i : s ≡ r = cc in ap rejected i
out_rejected f b r spent e = absurd (cc)

out_spent : {A : Type 0} (f : A → Value) (b : ℕ) (o : Outcome A) → left_of f b o ≡ used_up → verdict_of o ≡ out_of_steps
out_spent f b (answered a c t) e = absurd (cc)
out_spent f b (refused s) e = absurd (cc)
out_spent f b spent e = refl

-- the outcome of a unit's questions is the run of its program, with nothing after it
unit_left : (w : Place) (b : ℕ) (d : Decl) → left_of (λ y. truth true) b (outcome_of w (plain_answer steps w) b (unit_steps d)) ≡ run_then (out_of steps w) w (unit_steps d) b ends
unit_left w b d = run_erased steps w (λ y. truth true) (unit_steps d) b ∙ courses_are_steps steps w (unit_steps d) b

questions_are : (w : Place) (b : ℕ) (d : Decl) (r : Result (Unit {0}) Stop) → IsCheckOutcome (run_then (out_of steps w) w (unit_steps d) b ends) r → IsPlain (questions_of w b d) (result_verdict r)
unfolding questions_of
questions_are w b d (Ok u) h = inl (sym (out_accepted (λ y. truth true) b h.0 (truth true) h.1 (outcome_of w (plain_answer steps w) b (unit_steps d)) (unit_left w b d ∙ h.2)))
questions_are w b d (Err (No r)) h = inl (sym (out_rejected (λ y. truth true) b _ (outcome_of w (plain_answer steps w) b (unit_steps d)) (unit_left w b d ∙ h)))
questions_are w b d (Err Spent) h = inl (sym (out_spent (λ y. truth true) b (outcome_of w (plain_answer steps w) b (unit_steps d)) (unit_left w b d ∙ h)))
questions_are w b d (Err NoMemory) h = inr refl

-- the verdict of a declaration, by what answers its questions
pub questions_answered : {Base : Type 0} (s : Standing Base) (b left : ℕ) (d : Decl) (r : Result (Unit {0}) Stop) → s.table ≡ steps
    → ComesTo s (unit_steps d) b (λ (u : Unit {0}). checked) left r → IsPlain (questions_of s.place b d) (result_verdict r)
questions_answered s b left d r is h =
    let of_table : IsCheckOutcome (run_then (out_of steps s.place) s.place (unit_steps d) b ends) r = subst (λ t. IsCheckOutcome (run_then (out_of t s.place) s.place (unit_steps d) b ends) r) is (checked_gives r h) in
    questions_are s.place b d r of_table
  where
    checked_gives : (r : Result (Unit {0}) Stop) → ComesTo s (unit_steps d) b (λ (u : Unit {0}). checked) left r → IsCheckOutcome (run_then (out_of s.table s.place) s.place (unit_steps d) b ends) r
    checked_gives (Ok u) h = checked_on s (unit_steps d) b checked left ends (Ok u) h (left, None, refl)
    checked_gives (Err stop) h = checked_stop s (unit_steps d) b ends stop h

-- the verdict of a block, by what its stages come to
pub stages_answered : (table : Table) (places : Places) (b : Block) (rs : List BlockRecursor) (left : ℕ) (r : Result (Unit {0}) Stop) → table ≡ steps
    → IsCheckOutcome (block_stages table places (suc left) b rs left) r → IsPlain (stages_verdict (block_stages steps places (suc left) b rs left)) (result_verdict r)
stages_answered table places b rs left r is h = checked_plain (block_stages steps places (suc left) b rs left) r (subst (λ t. IsCheckOutcome (block_stages t places (suc left) b rs left) r) is h)
  where
    checked_plain : (o : Out) (r : Result (Unit {0}) Stop) → IsCheckOutcome o r → IsPlain (stages_verdict o) (result_verdict r)
    checked_plain o (Ok u) h = rw h.2 (inl refl)
    checked_plain o (Err (No r)) h = rw h (inl refl)
    checked_plain o (Err Spent) h = rw h (inl refl)
    checked_plain o (Err NoMemory) h = inr refl
