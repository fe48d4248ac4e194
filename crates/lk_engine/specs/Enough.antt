-- A question that is known to be answered within a budget, and is given that budget.
use Rattle.std.specs.Prelude.{ℕ, Result, IfOk, length}
use Rattle.lk_store.specs.declared.memory.NoMemory.{NoMemory}
use Rattle.lk_store.specs.Contents.{tree_at}
use Rattle.lk_store.specs.Layers.{layers_contents, Layers}
use Rattle.lk_ask.specs.declared.query.Query.{Query}
use Rattle.lk_ask.specs.declared.query.Answer.{Answer}
use Rattle.lk_ask.specs.Questions.{query_of, IsKnownAnswer}
use Rattle.lk_ask.specs.Outlook.{Outlook}
use Rattle.lk_memo.specs.declared.memo.PrivateMemo.{PrivateMemo}
use Rattle.lk_step.specs.Told.{IsTold}
use Rattle.lk_engine.specs.Lookouts.{place_of, AreTrueAt, Stays}

-- what is told is its plain answer, and what is kept is true; of all else no more than the meter is
-- another one
pub record AnswersWithin (old new : Outlook Layers) (later : PrivateMemo)
    (result : Result (Answer ℕ) NoMemory) (query : Query ℕ) : Type 0 where
  pub stays : Stays layers_contents (λ l. l.base) old new
  pub entries_true : AreTrueAt old (layers_contents new.terms) later
  pub known : IfOk result (IsKnownAnswer (length (layers_contents new.terms).trees))
  pub told : IsTold (place_of old) (layers_contents new.terms)
      (query_of (tree_at (layers_contents old.terms)) query) result
