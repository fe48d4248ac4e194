-- A derivation with what waits on its stack, by the numbers of a store.
use Rattle.std.specs.Prelude.{◌≡◌, ℕ, ◌<◌, List, length, map, All}
use Rattle.lk_rulebook.specs.Place.{Place}
use Rattle.lk_questions.specs.Query as plain
use Rattle.lk_written.specs.Written.{Keeps}
use Rattle.lk_store.specs.Contents.{Contents, tree_at, Extends}
use Rattle.lk_ask.specs.Questions.{query_of, IsKnownQuery}
use Rattle.lk_step.specs.Meaning.{step_at, IsStepIn}
use Rattle.lk_derive.specs.declared.derivation.Derivation.{Derivation}
use Rattle.lk_derive.specs.declared.task.Task.{Task}
use Rattle.lk_derive.specs.declared.task.Task.TheVariants.{Open, Write}
use Rattle.lk_derive.specs.Notes.{stated_at}
use Rattle.lk_derive.specs.Derived.{IsDerivation}
use Rattle.lk_derive.specs.Tasks as tasks
use Rattle.lk_derive.specs.Tasks.{weight, Comes, AreWaiting}

abbrev pub task_at : Contents → Task → tasks.Task
task_at c (Open q) = tasks.opening (query_of (tree_at c) q)
task_at c (Write q ss) = tasks.writing (query_of (tree_at c) q) (map (step_at c) ss.items)

abbrev pub tasks_at : Contents → List Task → List tasks.Task
tasks_at c ts = map (task_at c) ts

-- its numbers are known
abbrev pub IsTaskIn : Contents → Task → Type 0
IsTaskIn c (Open q) = IsKnownQuery (length c.trees) q
IsTaskIn c (Write q ss) = IsKnownQuery (length c.trees) q × All (IsStepIn c) ss.items

-- numbers stand for what they stood for, and what no call changes is as it was
pub record Stays {S : Type 0} (contents : S → Contents) (place : S → Place) (most : S → ℕ)
    (old new : S) : Type 0 where
  pub keeps : Extends (contents old) (contents new)
  pub place_stays : place new ≡ place old
  pub most_stays : most new ≡ most old

-- what is written holds, and these tasks wait
pub record IsStage (w : Place) (most : ℕ) (c : Contents) (d : Derivation) (stack : List Task)
    : Type 0 where
  pub derivation : IsDerivation w c d
  pub tasks_in : All (IsTaskIn c) stack
  pub waiting : AreWaiting w most (stated_at c d.notes) (tasks_at c stack)

-- A task was done: what was stated stays under its number, whatever was derived or waited is derived
-- or waits, and what waits weighs less.
pub record GoesOn (w : Place) (most : ℕ) (before after : Contents) (old new : Derivation)
    (stack rest : List Task) : Type 0 where
  pub stage : IsStage w most after new rest
  pub keeps : Keeps (stated_at before old.notes) (stated_at after new.notes)
  pub comes : (q : plain.Query)
      → Comes w (stated_at before old.notes) (tasks_at before stack) q
      → Comes w (stated_at after new.notes) (tasks_at after rest) q
  pub less : weight w most (tasks_at after rest) < weight w most (tasks_at before stack)
