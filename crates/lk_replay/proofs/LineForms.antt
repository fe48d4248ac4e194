-- One line more.
use Rattle.std.proofs.Common.{◌≡◌, ℕ, suc, Bool, true, false, ◌&&◌, List, [], ◌∷◌, ◌++◌, Option, Some, None, refl, ap, if◌then◌else◌}
use Rattle.lk_rulebook.specs.Place.{Place}
use Rattle.lk_rulebook.specs.Claims.{Claim}
use Rattle.lk_questions.specs.Tests.{◌>>=◌, test, passes}
use Rattle.lk_written.specs.Line.{Line, ty, rd, cv, claim_of}
use Rattle.lk_written.specs.Section.{are_fine, line_holds, claims_by, line_at_fault}
use Rattle.lk_replay.specs.Lines.{line_test, line_read}

both : (f : Bool) (o : Option (Unit {0})) → passes (test f >>= λ u. o) ≡ (f && passes o)
both true o = refl
both false o = refl

pub line_is : (w : Place) (ps : List Claim) (l : Line) → passes (line_read w ps l) ≡ line_holds w ps l
line_is w ps (ty r e T js) = both (are_fine e T) (line_test w ps (ty r e T js))
line_is w ps (rd r a b js) = both (are_fine a b) (line_test w ps (rd r a b js))
line_is w ps (cv r a b js) = both (are_fine a b) (line_test w ps (cv r a b js))

module _ (w : Place) (ps : List Claim) (l : Line) (ls : List Line) where
  module _ (h : line_holds w ps l ≡ true) where
    pub claims_on : claims_by w ps (l ∷ ls) ≡ claims_by w (ps ++ (claim_of l ∷ [])) ls
    claims_on = ap (λ b. if b then claims_by w (ps ++ (claim_of l ∷ [])) ls else None) h

    pub fault_on : (i : ℕ) → line_at_fault w ps i (l ∷ ls) ≡ line_at_fault w (ps ++ (claim_of l ∷ [])) (suc i) ls
    fault_on i = ap (λ b. if b then line_at_fault w (ps ++ (claim_of l ∷ [])) (suc i) ls else Some i) h

  pub fault_here : line_holds w ps l ≡ false → (i : ℕ) → line_at_fault w ps i (l ∷ ls) ≡ Some i
  fault_here h i = ap (λ b. if b then line_at_fault w (ps ++ (claim_of l ∷ [])) (suc i) ls else Some i) h
