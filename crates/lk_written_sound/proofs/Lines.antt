-- A property of claims that goes on from line to line holds of all that lines state.
use Rattle.std.proofs.Common.{◌≡◌, Bool, true, false, List, [], ◌∷◌, ◌++◌, Option, Some, None, refl, subst, if◌then◌else◌}
use Rattle.lk_rulebook.specs.Place.{Place}
use Rattle.lk_rulebook.specs.Claims.{Claim}
use Rattle.lk_claims.proofs.Pieces.{Some_inj}
use Rattle.lk_written.specs.Line.{Line, claim_of}
use Rattle.lk_written.specs.Section.{line_holds, claims_by}
use Rattle.lk_written_sound.proofs.Premises.{IfSome, Each}

one_more : (P : Claim → Type 0) (ps : List Claim) (c : Claim) → Each P ps → P c → Each P (ps ++ (c ∷ []))
one_more P [] c d h = (h, tt)
one_more P (p ∷ ps) c d h = (d.0, one_more P ps c d.1 h)

pub each_line : (w : Place) (P : Claim → Type 0) → ((ps : List Claim) → Each P ps → (l : Line) → line_holds w ps l ≡ true → P (claim_of l)) →
    (ls : List Line) (ps : List Claim) → Each P ps → IfSome (claims_by w ps ls) (Each P)
each_line w P f [] ps d = d
each_line w P f (l ∷ ls) ps d = go (line_holds w ps l) refl (λ h. each_line w P f ls (ps ++ (claim_of l ∷ [])) (one_more P ps (claim_of l) d (f ps d l h)))
  where
    go : (b : Bool) → line_holds w ps l ≡ b → (line_holds w ps l ≡ true → IfSome (claims_by w (ps ++ (claim_of l ∷ [])) ls) (Each P)) →
        IfSome (if b then claims_by w (ps ++ (claim_of l ∷ [])) ls else None) (Each P)
    go true e k = k e
    go false e k = tt

pub some_holds : {A : Type 0} (o : Option A) (P : A → Type 0) (v : A) → IfSome o P → o ≡ Some v → P v
some_holds (Some u) P v h e = subst P (Some_inj e) h
some_holds None P v h e = absurd cc
