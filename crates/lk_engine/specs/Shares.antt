-- Answers that workers share: a desk has what is true above all that was looked at.
use Rattle.std.specs.Prelude.{◌≡◌, ℕ, Option, Some, None}
use Rattle.lk_questions.specs.Laws.{IsBelow}
use Rattle.lk_store.specs.Contents.{Contents}
use Rattle.lk_ask.specs.declared.query.Query.{Query}
use Rattle.lk_ask.specs.declared.kept.Kept.{Kept}
use Rattle.lk_ask.specs.Questions.{IsKnownQuery}
use Rattle.lk_desk.specs.Job.{Job}
use Rattle.lk_engine.specs.Entries.{IsLasting}
use Rattle.lk_engine.specs.Shared.{Shared}

-- over the job's library an answer outlasts its unit
abbrev pub LastsAt : Job → Contents → Query ℕ → Kept → Type 0
LastsAt None c q kept = ⊥
LastsAt (Some l) c q kept = IsLasting l c q kept

-- an answer is found that holds for the unit that looks
pub record IsShared (share : Shared) (c : Contents) (q : Query ℕ) (kept : Kept) : Type 0 where
  pub unit : ℕ
  pub looks : share.unit ≡ Some unit
  pub below : IsBelow kept.top unit
  pub lasts : LastsAt share.job c q kept

-- a unit looks, and the terms of the question are among the first ones
pub record IsFor (share : Shared) (terms : ℕ) (q : Query ℕ) : Type 0 where
  pub unit : ℕ
  pub looks : share.unit ≡ Some unit
  pub query : IsKnownQuery terms q

-- from here on this unit looks, if any
abbrev pub shared_from : Option ℕ → Shared → Shared
shared_from looker share = record share { unit = looker }
