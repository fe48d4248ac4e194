-- The outcome of a check, told in two ways: as the outcome of a task, and as what its pieces come to one after another.
use Rattle.std.specs.Prelude.{ℕ, ◌≡◌, suc, List}
use Rattle.lk_rulebook.specs.Place.{Block, BlockRecursor}
use Rattle.lk_rulebook.specs.Units.{Library, of_block, place_of}
use Rattle.lk_questions.specs.Answer.{Outcome, answered, refused, spent}
use Rattle.lk_questions.specs.Erased.{Out, finished, stopped, used_up}
use Rattle.lk_questions.specs.Program.{Table}
use Rattle.lk_env.specs.Places.{partial_beside}
use Rattle.lk_inductive.specs.NestedTask.{plain_whole}
use Rattle.lk_block.specs.Stages.{block_stages}

-- both are an answer, one refusal, or the budget is used up
abbrev pub Agrees : {A : Type 0} → Outcome A → Out → Type 0
Agrees (answered v c t) (finished u left last) = Unit {0}
Agrees (refused r) (stopped s) = r ≡ s
Agrees spent used_up = Unit {0}
Agrees _ _ = ⊥

-- so it is with the plain outcome of a block as unit n and that of its stages
abbrev pub GoesByStages : Type 0
GoesByStages = (table : Table) (us : Library) (n : ℕ) (b : Block) (rs : List BlockRecursor) (budget : ℕ)
    → Agrees (plain_whole table us n b rs budget) (block_stages table (λ p aux. place_of us n (partial_beside (of_block b rs) p aux)) (suc budget) b rs budget)
