-- Two projections.
use Rattle.std.proofs.Common.{ℕ, ◌≡◌, ◌+◌, Bool, true, false, ◌&&◌, nat_eq, eqb-true, [], ◌∷◌, Option, None, refl, sym, subst, ◌∙◌, if◌then◌else◌, arith}
use Rattle.lk_claims.proofs.Pieces.{same_name_right}
use Rattle.lk_tree.specs.Tree.{Name, name_discrete, Tree, proj}
use Rattle.lk_tree.specs.WellFormed.{IsWellFormed}
use Rattle.lk_tree.specs.Mentions.{same_name}
use Rattle.lk_rulebook.specs.Place.{Place}
use Rattle.lk_rulebook.specs.Claims.{equals}
use Rattle.lk_questions.specs.Query.{same}
use Rattle.lk_questions.specs.Program.{done, asked}
use Rattle.lk_questions.specs.Steps.{decided}
use Rattle.lk_questions.specs.Pairs.{Line, yes_alone, answers_yes, goes_on}
use Rattle.lk_questions.specs.Same.{by_parts}
use Rattle.lk_written.specs.Line.{projs_rule}
use Rattle.lk_step.specs.Steps.{equality}
use Rattle.lk_step.specs.Rows.{no_claim, a_claim}
use Rattle.lk_step.specs.Runs.{Runs}
use Rattle.lk_step.specs.Told.{IsAnsweredWithin, IsSame}
use Rattle.lk_step.proofs.EqualitySteps.{equality_steps}
use Rattle.lk_step.specs.Tests.{IsRun, AreReduced}
use Rattle.lk_step.specs.Tells.{IsBasis}
use Rattle.lk_step.proofs.Following.{Followed, follow, asks_within}
use Rattle.lk_step.proofs.Bases.{one_step}
use Rattle.lk_derive_equal.proofs.CoreRows.{both_first, both_second}

pub as_decided : (S T : Name) → same_name S T ≡ decided (name_discrete S T)
as_decided S T = go (name_discrete S T)
  where
    go : (d : Dec (S ≡ T)) → elim d [ yes e ↦ true | no f ↦ false ] ≡ decided d
    go (yes e) = refl
    go (no f) = refl

-- where the names and the fields are the same, or not
abbrev by_subjects : Bool → Tree → Tree → Line
by_subjects z s t = if z then answers_yes (asked (same s t)) else goes_on

module _ (w : Place) (a b : Tree) (S T : Name) (i j : ℕ) (s t : Tree) (ea : proj S i s ≡ a) (eb : proj T j t ≡ b) where
  pub at_subjects : (z : Bool) → same_name S T && nat_eq i j ≡ z → (v : Option Bool) (n : ℕ) → Runs w (by_parts a b) v n → Runs w (by_subjects z s t) v n
  at_subjects z e v n h =
      let one : Runs w (by_parts (proj S i s) (proj T j t)) v n = subst (λ b. Runs w (by_parts (proj S i s) b) v n) (sym eb) (subst (λ a. Runs w (by_parts a b) v n) (sym ea) h) in
      let is : decided (name_discrete S T) && nat_eq i j ≡ z = subst (λ x. x && nat_eq i j ≡ z) (as_decided S T) e in
      subst (λ x. Runs w (by_subjects x s t) v n) is one

  pub subjects_other : same_name S T && nat_eq i j ≡ false → (v : Option Bool) (n : ℕ) → Runs w (by_parts a b) v n → v ≡ None
  subjects_other e v n h = let r : Runs w goes_on v n = at_subjects false e v n h in sym r.0

  pub subjects_asks : same_name S T && nat_eq i j ≡ true → (most : ℕ) → IsRun w (by_parts a b) most → IsAnsweredWithin w (same s t) most
  subjects_asks e most r = asks_within w (same s t) (λ y. done (yes_alone y)) most (record { value = r.value; cost = r.cost; runs = at_subjects true e r.value r.cost r.runs; within = r.within })

  module _ (e : same_name S T && nat_eq i j ≡ true) (y : Bool) (k : IsSame w s t y) where
    subjects_follow : (v : Option Bool) (n : ℕ) → Runs w (by_parts a b) v n → Followed w (done (yes_alone y)) v n k.cost
    subjects_follow v n h = follow w (same s t) (λ y. done (yes_alone y)) v n y k.cost (at_subjects true e v n h) k.answered

    pub subjects_end : (v : Option Bool) (n : ℕ) → Runs w (by_parts a b) v n → yes_alone y ≡ v
    subjects_end v n h = (subjects_follow v n h).runs.0

    pub subjects_basis : y ≡ true → AreReduced w a b → (v : Option Bool) (n : ℕ) → Runs w (by_parts a b) v n
        → IsBasis w (equals a b) n (same s t ∷ []) (equality projs_rule a b (equals s t ∷ []) ∷ [])
    subjects_basis agree p v n h =
        let f : Followed w (done (yes_alone y)) v n k.cost = subjects_follow v n h in
        let paid : n ≡ k.cost + f.left = f.paid in
        let one : S ≡ T = same_name_right S T (both_first (same_name S T) (nat_eq i j) e) in
        let two : i ≡ j = eqb-true i j (both_second (same_name S T) (nat_eq i j) e) in
        let fs = subst IsWellFormed (sym ea) p.left in
        let ft = subst IsWellFormed (sym eb) p.right in
        let other : proj S i t ≡ b = subst (λ T. proj S i t ≡ proj T i t) one refl ∙ (subst (λ j. proj T i t ≡ proj T j t) two refl ∙ eb) in
        subst (λ a. IsBasis w (equals a b) n (same s t ∷ []) (equality projs_rule a b (equals s t ∷ []) ∷ [])) ea
        (subst (λ b. IsBasis w (equals (proj S i s) b) n (same s t ∷ []) (equality projs_rule (proj S i s) b (equals s t ∷ []) ∷ [])) other
        (one_step w (equality projs_rule (proj S i s) (proj S i t) (equals s t ∷ [])) (same s t ∷ []) (equals s t ∷ []) (k.cost + 0) n
        (a_claim (same s t) y k.cost (fs, ft) k.answered agree no_claim) (omega (arith, paid)) ((equality_steps w).projs S i s t fs ft) refl))
