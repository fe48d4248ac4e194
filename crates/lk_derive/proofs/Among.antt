-- What is there stays there, and steps over it go on holding.
use Rattle.std.proofs.Common.{◌≡◌, List, [], ◌∷◌, map, refl, subst, inl, inr, arith}
use Rattle.std.specs.Prelude.{All}
use Rattle.std.proofs.lemmas.List.Elements.{All-head, All-rest, All-weaker}
use Rattle.lk_rulebook.specs.Place.{Place}
use Rattle.lk_rulebook.specs.Claims.{Claim}
use Rattle.lk_written.specs.Written.{Keeps}
use Rattle.lk_store.specs.Contents.{Contents}
use Rattle.lk_step.specs.declared.step.Step.{Step as StoredStep}
use Rattle.lk_step.specs.Steps.{Step, claim_of, premises_of}
use Rattle.lk_step.specs.Rows.{IsThere, AreSteps, claims_after}
use Rattle.lk_step.specs.Meaning.{step_at, IsStepIn}
use Rattle.lk_derive.specs.declared.notes.Notes.{Notes}
use Rattle.lk_derive.specs.Notes.{stated_at, IsNotes, Writes}
use Rattle.lk_derive.specs.Writing.{AreAmong}
use Rattle.lk_derive.proofs.Lists.{contains_cases, contains_later, contains_at, at_contained}

later : (k : Claim) (ds : List Claim) (p : Claim) → IsThere ds p → IsThere (k ∷ ds) p
later k ds p (inl e) = inl e
later k ds p (inr h) = inr (contains_later k ds p h)

first : (k : Claim) (ds : List Claim) → IsThere (k ∷ ds) k
first k ds = inr (0, omega arith, refl)

among_more : (k : Claim) (cs ds : List Claim) → AreAmong cs ds → AreAmong (k ∷ cs) (k ∷ ds)
among_more k cs ds h p (inl e) = inl e
among_more k cs ds h p (inr i) = elim (contains_cases k cs p i) [
  | inl e ↦ subst (IsThere (k ∷ ds)) e (first k ds)
  | inr j ↦ later k ds p (h p (inr j))
]

pub steps_on : (w : Place) (cs ds : List Claim) (ss : List Step) → AreAmong cs ds → AreSteps w cs ss → AreSteps w ds ss
steps_on w cs ds [] h k = tt
steps_on w cs ds (s ∷ ss) h k = (
  k.0,
  All-weaker (IsThere cs) (IsThere ds) h (premises_of s) k.1,
  steps_on w (claim_of s ∷ cs) (claim_of s ∷ ds) ss (among_more (claim_of s) cs ds h) k.2,
)

pub after_on : (cs ds : List Claim) (ss : List Step) → AreAmong cs ds → AreAmong (claims_after cs ss) (claims_after ds ss)
after_on cs ds [] h = h
after_on cs ds (s ∷ ss) h = after_on (claim_of s ∷ cs) (claim_of s ∷ ds) ss (among_more (claim_of s) cs ds h)

pub keeps_among : (ps qs : List Claim) → Keeps ps qs → AreAmong ps qs
keeps_among ps qs keeps p (inl e) = inl e
keeps_among ps qs keeps p (inr h) = inr (contains_at qs h.0 p (keeps h.0 p (at_contained ps p h)))

-- what was there, and a claim more that is there now
next_among : (ps qs : List Claim) (k : Claim) → Keeps ps qs → IsThere qs k → AreAmong (k ∷ ps) qs
next_among ps qs k keeps there p (inl e) = inl e
next_among ps qs k keeps there p (inr h) = elim (contains_cases k ps p h) [
  | inl e ↦ subst (IsThere qs) e there
  | inr i ↦ keeps_among ps qs keeps p (inr i)
]

-- Steps are written one after another: these are left, and what is there after all of them will be there after those.
pub record IsWriting (w : Place) (c : Contents) (old : Notes) (all : List StoredStep) (now : Notes) (rest : List StoredStep) : Type 0 where
  pub notes : IsNotes w c now
  pub keeps : Keeps (stated_at c old) (stated_at c now)
  pub steps_in : All (IsStepIn c) rest
  pub steps : AreSteps w (stated_at c now) (map (step_at c) rest)
  pub among : AreAmong (claims_after (stated_at c old) (map (step_at c) all)) (claims_after (stated_at c now) (map (step_at c) rest))

module _ (w : Place) (c : Contents) (old : Notes) (all : List StoredStep) where
  module _ (now : Notes) (rest : List StoredStep) (h : IsWriting w c old all now rest) where
    module _ (s : StoredStep) (more : List StoredStep) (split : rest ≡ s ∷ more) where
      pub next_step_in : IsStepIn c s
      next_step_in = All-head (IsStepIn c) s more (subst (All (IsStepIn c)) split h.steps_in)

      all_steps : AreSteps w (stated_at c now) (step_at c s ∷ map (step_at c) more)
      all_steps = subst (λ xs. AreSteps w (stated_at c now) (map (step_at c) xs)) split h.steps

      pub writing_more : (new : Notes) → Writes w c now new (claim_of (step_at c s)) → IsWriting w c old all new more
      writing_more new writes =
          let ss = map (step_at c) more in
          let goes : AreAmong (claim_of (step_at c s) ∷ stated_at c now) (stated_at c new) = next_among (stated_at c now) (stated_at c new) (claim_of (step_at c s)) writes.keeps writes.there in
          let split_among : AreAmong (claims_after (stated_at c old) (map (step_at c) all)) (claims_after (claim_of (step_at c s) ∷ stated_at c now) ss) =
          subst (λ xs. AreAmong (claims_after (stated_at c old) (map (step_at c) all)) (claims_after (stated_at c now) (map (step_at c) xs))) split h.among in
          record {
            notes = writes.notes;
            keeps = λ i p e. writes.keeps i p (h.keeps i p e);
            steps_in = All-rest (IsStepIn c) s more rest split h.steps_in;
            steps = steps_on w (claim_of (step_at c s) ∷ stated_at c now) (stated_at c new) ss goes all_steps.2;
            among = λ p i. after_on (claim_of (step_at c s) ∷ stated_at c now) (stated_at c new) ss goes p (split_among p i);
          }
