-- An outcome of a block's check but spent is the same under each greater budget.
use Rattle.std.proofs.Common.{ℕ, suc, ◌≡◌, ◌-◌, inl, inr, List, [], ◌++◌, refl, ◌∙◌, arith}
use Rattle.lk_rulebook.specs.Place.{Place, Block, BlockRecursor}
use Rattle.lk_rulebook.specs.Units.{Members, Library, place_of}
use Rattle.lk_questions.specs.Query.{Query, AnswerTo}
use Rattle.lk_questions.specs.Answer.{Outcome, plain_answer}
use Rattle.lk_questions.specs.Laws.{IsSettled}
use Rattle.lk_questions.specs.Program.{Table}
use Rattle.lk_questions.proofs.Settled.{Settles, settled_then, settled_found, ans_settled}
use Rattle.lk_inductive.specs.Task.{Task, done_with, stopped, asking, looking, with_partial, run_task}
use Rattle.lk_inductive.specs.NestedTask.{whole_task, plain_whole}
use Rattle.lk_inductive.proofs.Plain.{NeedsNoFuel, whole_fuel, at_fuel, fueled, same_fuel}

pub task_settled : {A : Type 0} (places : Members → Place) (f : Place → (q : Query) → ℕ → Outcome (AnswerTo q)) → ((w : Place) (q : Query) → IsSettled (f w q)) → (h : Members) (t : Task A) → IsSettled (λ b. run_task places f h b t)
task_settled places f s h (done_with v) b i l = inr refl
task_settled places f s h (stopped r) b i l = inr refl
task_settled places f s h (asking q k) b i l =
    settled_then (f (places h) q b) (f (places h) q i) (λ v c. run_task places f h (b - c) (k v)) (λ v c. run_task places f h (i - c) (k v)) (s (places h) q b i l)
    (λ v c. task_settled places f s h (k v) (b - c) (i - c) (omega arith))
task_settled places f s h (looking r c k) b i l =
    settled_found r ((places h).means c) ((places h).origin c) ((places h).flaw c) (λ e. run_task places f h b (k e)) (λ e. run_task places f h i (k e)) (λ e. task_settled places f s h (k e) b i l)
task_settled places f s h (with_partial ms t) b i l = task_settled places f s (h ++ ms) t b i l

moved_to : {A : Type 0} (o p o' : Outcome A) → o ≡ p → Settles p o' → Settles o o'
moved_to o p o' e (inl x) = inl (e ∙ x)
moved_to o p o' e (inr x) = inr (let y : o' ≡ o = cc in y)

fueled_settled : {A : Type 0} (table : Table) (us : Library) (n : ℕ) (task : ℕ → Task A) → NeedsNoFuel task → IsSettled (fueled table us n task)
fueled_settled table us n task free i more l =
    moved_to (fueled table us n task i) (at_fuel table us n task (suc more) i) (fueled table us n task more) (same_fuel table us n task free (suc i) (suc more) i (omega arith) (omega arith))
    (task_settled (place_of us n) (λ w. plain_answer table w) (λ w q. ans_settled table w q) [] (task (suc more)) i more l)

pub plain_settled : (table : Table) (us : Library) (n : ℕ) (b : Block) (stated : List BlockRecursor) → IsSettled (plain_whole table us n b stated)
plain_settled table us n b stated = fueled_settled table us n (λ fuel. whole_task fuel b stated) (whole_fuel b stated)
