-- Which questions are derived in a section.
use Rattle.std.specs.Prelude.{◌≡◌, ℕ, Bool, true, List, length, if◌then◌else◌}
use Rattle.std.specs.HashSet as hash_set
use Rattle.lk_rulebook.specs.Place.{Place}
use Rattle.lk_rulebook.specs.Claims.{Claim}
use Rattle.lk_questions.specs.Query as plain
use Rattle.lk_questions.specs.Query.{AnswerTo}
use Rattle.lk_written.specs.Written.{Keeps}
use Rattle.lk_store.specs.Contents.{Contents, tree_at}
use Rattle.lk_ask.specs.declared.query.Query.{Query}
use Rattle.lk_ask.specs.Questions.{query_of, IsKnownQuery}
use Rattle.lk_memo.specs.Keys.{key_of, same_key}
use Rattle.lk_step.specs.Rows.{IsAnswered, IsClaimed, claim_by, IsThere}
use Rattle.lk_derive.specs.declared.derivation.Derivation.{Derivation}
use Rattle.lk_derive.specs.Notes.{stated_at, IsNotes}

-- what the question's answer claims is there
pub record IsDerived (w : Place) (ps : List Claim) (q : plain.Query) : Type 0 where
  pub answer : AnswerTo q
  pub cost : ℕ
  pub answered : IsAnswered w q answer cost
  pub claimed : IsClaimed q answer
  pub there : IsThere ps (claim_by q answer)

-- the same, by the numbers of a store
pub record IsDerivedIn (w : Place) (c : Contents) (ps : List Claim) (q : Query ℕ) : Type 0 where
  pub known : IsKnownQuery (length c.trees) q
  pub derived : IsDerived w ps (query_of (tree_at c) q)

abbrev pub is_marked : Derivation → Query ℕ → Bool
is_marked d q = hash_set.contains same_key d.derived (key_of q)

-- this question is marked too, and nothing else changes
pub record Marks (old new : Derivation) (q : Query ℕ) : Type 0 where
  pub notes : new.notes ≡ old.notes
  pub marked : (p : Query ℕ) → is_marked new p
      ≡ (if same_key (key_of q) (key_of p) then true else is_marked old p)

-- what is written holds, and each question that is marked is derived
pub record IsDerivation (w : Place) (c : Contents) (d : Derivation) : Type 0 where
  pub notes : IsNotes w c d.notes
  pub marked : (q : Query ℕ) → is_marked d q ≡ true → IsDerivedIn w c (stated_at c d.notes) q

-- what is written goes on holding, what was stated stays under its number, and the question is
-- derived
pub record Derives (w : Place) (c d : Contents) (old new : Derivation) (q : plain.Query)
    : Type 0 where
  pub derivation : IsDerivation w d new
  pub keeps : Keeps (stated_at c old.notes) (stated_at d new.notes)
  pub derived : IsDerived w (stated_at d new.notes) q
