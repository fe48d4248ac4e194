-- What a part answers of a block its table answers too.
use Rattle.std.proofs.Common.{ℕ, suc, ◌-◌, List, [], ◌++◌, refl}
use Rattle.lk_rulebook.specs.Place.{Place, Block, BlockRecursor}
use Rattle.lk_rulebook.specs.Units.{Members, Library, place_of}
use Rattle.lk_questions.specs.Query.{Query, AnswerTo}
use Rattle.lk_questions.specs.Program.{Table}
use Rattle.lk_questions.specs.Answer.{Outcome, plain_answer}
use Rattle.lk_questions.specs.Parts.{IsPartOf}
use Rattle.lk_questions.proofs.Parts.{Gives, gives_then, gives_found, ans_gives}
use Rattle.lk_inductive.specs.Task.{Task, done_with, stopped, asking, looking, with_partial, run_task}
use Rattle.lk_inductive.specs.NestedTask.{whole_task, plain_whole}

pub task_gives : {A : Type 0} (places : Members → Place) (f g : Place → (q : Query) → ℕ → Outcome (AnswerTo q)) → ((w : Place) (q : Query) (b : ℕ) → Gives (f w q b) (g w q b)) →
    (h : Members) (b : ℕ) (t : Task A) → Gives (run_task places f h b t) (run_task places g h b t)
task_gives places f g i h b (done_with v) = refl
task_gives places f g i h b (stopped r) = tt
task_gives places f g i h b (asking q k) =
    gives_then (f (places h) q b) (g (places h) q b) (λ v c. run_task places f h (b - c) (k v)) (λ v c. run_task places g h (b - c) (k v)) (i (places h) q b)
    (λ v c. task_gives places f g i h (b - c) (k v))
task_gives places f g i h b (looking r c k) =
    gives_found r ((places h).means c) ((places h).origin c) ((places h).flaw c) (λ e. run_task places f h b (k e)) (λ e. run_task places g h b (k e)) (λ e. task_gives places f g i h b (k e))
task_gives places f g i h b (with_partial ms t) = task_gives places f g i (h ++ ms) b t

pub plain_gives : (part table : Table) → IsPartOf part table → (us : Library) (n : ℕ) (b : Block) (stated : List BlockRecursor) (budget : ℕ) → Gives (plain_whole part us n b stated budget) (plain_whole table us n b stated budget)
plain_gives part table h us n b stated budget = task_gives (place_of us n) (λ w. plain_answer part w) (λ w. plain_answer table w) (λ w q i. ans_gives part table h w q i) [] budget (whole_task (suc budget) b stated)
