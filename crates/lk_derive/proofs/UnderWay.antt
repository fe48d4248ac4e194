-- The loop that derives a question.
use Rattle.std.proofs.Common.{◌≡◌, ℕ, List, [], ◌∷◌, ◌++◌, sym, subst, ◌∙◌}
use Rattle.lk_rulebook.specs.Place.{Place}
use Rattle.lk_questions.specs.Query as plain
use Rattle.lk_written.specs.Written.{Keeps}
use Rattle.lk_store.specs.Contents.{Contents}
use Rattle.lk_store.proofs.Extending.{Extends-trans}
use Rattle.lk_derive.specs.declared.derivation.Derivation.{Derivation}
use Rattle.lk_derive.specs.declared.task.Task.{Task}
use Rattle.lk_derive.specs.Notes.{stated_at}
use Rattle.lk_derive.specs.Tasks.{Comes}
use Rattle.lk_derive.specs.Stages.{tasks_at, Stays, IsStage, GoesOn}

-- From start on the question was worked for: it is derived, or a task for it waits.
pub record IsUnderWay {S : Type 0} (contents : S → Contents) (place : S → Place) (most : S → ℕ) (start now : S) (old v : Derivation) (q : plain.Query) (stack : List Task) : Type 0 where
  pub stays : Stays contents place most start now
  pub stage : IsStage (place start) (most start) (contents now) v stack
  pub keeps : Keeps (stated_at (contents start) old.notes) (stated_at (contents now) v.notes)
  pub comes : Comes (place start) (stated_at (contents now) v.notes) (tasks_at (contents now) stack) q

-- the task on top was done
module _ {S : Type 0} (contents : S → Contents) (place : S → Place) (most : S → ℕ) (start : S) (old : Derivation) (q : plain.Query) (now : S) (v : Derivation) (stack : List Task)
    (u : IsUnderWay contents place most start now old v q stack) (rest : List Task) (t : Task) (popped : stack ≡ rest ++ t ∷ [])
    (after : S) (new : Derivation) (more : List Task) (x : Stays contents place most now after) (goes : GoesOn (place now) (most now) (contents now) (contents after) v new (rest ++ t ∷ []) more) where
  here : GoesOn (place start) (most start) (contents now) (contents after) v new stack more
  here =
      let at_place : GoesOn (place start) (most now) (contents now) (contents after) v new (rest ++ t ∷ []) more =
      subst (λ (w : Place). GoesOn w (most now) (contents now) (contents after) v new (rest ++ t ∷ []) more) u.stays.place_stays goes in
      let at_most : GoesOn (place start) (most start) (contents now) (contents after) v new (rest ++ t ∷ []) more =
      subst (λ (m : ℕ). GoesOn (place start) m (contents now) (contents after) v new (rest ++ t ∷ []) more) u.stays.most_stays at_place in
      subst (λ (ts : List Task). GoesOn (place start) (most start) (contents now) (contents after) v new ts more) (sym popped) at_most

  pub goes_on : IsUnderWay contents place most start after old new q more
  goes_on = record {
    stays = record {
      keeps = Extends-trans (contents start) (contents now) (contents after) u.stays.keeps x.keeps;
      place_stays = x.place_stays ∙ u.stays.place_stays;
      most_stays = x.most_stays ∙ u.stays.most_stays;
    };
    stage = here.stage;
    keeps = λ i c e. here.keeps i c (u.keeps i c e);
    comes = here.comes q u.comes;
  }
