-- What waits on the stack of a walk, and what is found on it.
use Rattle.std.proofs.Common.{◌≡◌, ◌<◌, ◌+◌, true, false, List, [], ◌∷◌, ◌++◌, map, Ok, refl, ap, sym, ◌∙◌, subst, arith, inl, inr}
use Rattle.std.proofs.lemmas.List.{append-nil}
use Rattle.lk_seek.specs.declared.visit.Visit.{Visit}
use Rattle.lk_seek.specs.declared.visit.Visit.TheVariants.{Enter, Leave}
use Rattle.lk_seek.specs.Sought.{Sought, AreFindings}
use Rattle.lk_seek.specs.Visits.{found_on, turns, AreWaiting, IsLooked}

-- the walk goes on: w is what is found in the whole
pub record IsUnderWay {P E : Type 0} (s : Sought P E) (w : s.findings.Found) (stack : List (Visit P)) : Type 0 where
  pub waiting : AreWaiting s stack
  pub whole : found_on s stack ≡ w

module _ {P E : Type 0} (s : Sought P E) (laws : AreFindings s.findings) where
  found_append : (xs ys : List (Visit P)) → found_on s (xs ++ ys) ≡ s.findings.then (found_on s ys) (found_on s xs)
  found_append [] ys = sym (laws.last (found_on s ys))
  found_append (Enter p ∷ xs) ys = ap (λ a. s.findings.then a (s.found_in p)) (found_append xs ys) ∙ laws.assoc (found_on s ys) (found_on s xs) (s.found_in p)
  found_append (Leave p ∷ xs) ys = found_append xs ys

  found_same : (xs ys zs : List (Visit P)) → found_on s ys ≡ found_on s zs → found_on s (xs ++ ys) ≡ found_on s (xs ++ zs)
  found_same xs ys zs same = found_append xs ys ∙ ap (λ a. s.findings.then a (found_on s xs)) same ∙ sym (found_append xs zs)

  -- what stands above is replaced
  replaced : (xs ys zs : List (Visit P)) → found_on s ys ≡ found_on s zs → AreWaiting s zs → AreWaiting s (xs ++ ys) → AreWaiting s (xs ++ zs)
  replaced [] ys zs same z h = z
  replaced (Enter p ∷ xs) ys zs same z h = (h.0, replaced xs ys zs same z h.1)
  replaced (Leave p ∷ xs) ys zs same z h = (sym (found_same xs ys zs same) ∙ h.0, replaced xs ys zs same z h.1)

  top : (xs : List (Visit P)) (v : Visit P) → AreWaiting s (xs ++ v ∷ []) → AreWaiting s (v ∷ [])
  top [] v h = h
  top (Enter p ∷ xs) v h = top xs v h.1
  top (Leave p ∷ xs) v h = top xs v h.1

  turns_append : (xs ys : List (Visit P)) → turns s (xs ++ ys) ≡ turns s xs + turns s ys
  turns_append [] ys = omega arith
  turns_append (Enter p ∷ xs) ys = let e = turns_append xs ys in omega arith
  turns_append (Leave p ∷ xs) ys = let e = turns_append xs ys in omega arith

  module _ (w : s.findings.Found) (stack rest : List (Visit P)) (v : Visit P) (popped : stack ≡ rest ++ v ∷ []) (u : IsUnderWay s w stack) where
    waits : AreWaiting s (v ∷ [])
    waits = top rest v (subst (AreWaiting s) popped u.waiting)

    whole : s.findings.then (found_on s (v ∷ [])) (found_on s rest) ≡ w
    whole = sym (found_append rest (v ∷ [])) ∙ sym (ap (found_on s) popped) ∙ u.whole

    goes_on : (zs : List (Visit P)) → found_on s (v ∷ []) ≡ found_on s zs → AreWaiting s zs → IsUnderWay s w (rest ++ zs)
    goes_on zs same z = record {
      waiting = replaced rest (v ∷ []) zs same z (subst (AreWaiting s) popped u.waiting);
      whole = found_append rest zs ∙ ap (λ a. s.findings.then a (found_on s rest)) (sym same) ∙ whole;
    }

    -- nothing is found in it
    passed : found_on s (v ∷ []) ≡ s.findings.found false → IsUnderWay s w rest
    passed none = subst (IsUnderWay s w) (append-nil rest) (goes_on [] none tt)

  -- the walk leaves a part
  module _ (w : s.findings.Found) (stack rest : List (Visit P)) (p : P) (popped : stack ≡ rest ++ Leave p ∷ []) where
    pub leaves_clear : IsUnderWay s w stack → s.found_in p ≡ s.findings.found false
    leaves_clear u = sym (waits w stack rest (Leave p) popped u).0

    pub leaves : IsUnderWay s w stack → IsUnderWay s w rest
    leaves u = passed w stack rest (Leave p) popped u refl

    pub leaves_stopped : IsUnderWay s w stack → (e : E) → s.findings.stops (s.found_in p) e → s.findings.stops w e
    leaves_stopped u e h =
        let clear = leaves_clear u in
        subst (λ a. s.findings.stops a e) (laws.next (found_on s rest) ∙ (leaves u).whole)
        (laws.stops (s.findings.found false) (found_on s rest) e (subst (λ a. s.findings.stops a e) clear h))

    pub leaves_less : turns s rest < turns s stack
    leaves_less = let a = ap (turns s) popped ∙ turns_append rest (Leave p ∷ []) in omega arith

  -- the walk looks at a part
  module _ (w : s.findings.Found) (stack rest : List (Visit P)) (p : P) (popped : stack ≡ rest ++ Enter p ∷ []) where
    entered : turns s stack ≡ turns s rest + (s.cost p + 1)
    entered = let a = ap (turns s) popped ∙ turns_append rest (Enter p ∷ []) in omega arith

    pub looked_less : (new : List (Visit P)) → IsLooked s p rest new (Ok false) → turns s new < turns s stack
    looked_less new (inl h) = let a = ap (turns s) h.0 in let b = entered in omega arith
    looked_less new (inr h) =
        let a = ap (turns s) h.pushed ∙ turns_append rest (Leave p ∷ map Enter h.parts) in
        let b = entered in
        let d = h.cheaper in
        omega arith

    module _ (u : IsUnderWay s w stack) where
      pub enters_known : s.is_in p
      enters_known = (waits w stack rest (Enter p) popped u).0

      own : found_on s (Enter p ∷ []) ≡ s.found_in p
      own = laws.next (s.found_in p)

      pub looked : (new : List (Visit P)) → IsLooked s p rest new (Ok false) → IsUnderWay s w new
      looked new (inl h) = subst (IsUnderWay s w) (sym h.0) (passed w stack rest (Enter p) popped u (own ∙ h.1))
      looked new (inr h) =
          subst (IsUnderWay s w) (sym h.pushed)
          (goes_on w stack rest (Enter p) popped u (Leave p ∷ map Enter h.parts) (own ∙ sym h.finds) (h.finds, h.waiting))

      begun : s.findings.then (s.found_in p) (found_on s rest) ≡ w
      begun = ap (λ a. s.findings.then a (found_on s rest)) (sym own) ∙ whole w stack rest (Enter p) popped u

      pub holds : s.found_in p ≡ s.findings.found true → w ≡ s.findings.found true
      holds is = sym begun ∙ ap (λ a. s.findings.then a (found_on s rest)) is ∙ laws.first (found_on s rest)

      pub stopped : (e : E) → s.findings.stops (s.found_in p) e → s.findings.stops w e
      stopped e h = subst (λ a. s.findings.stops a e) begun (laws.stops (s.found_in p) (found_on s rest) e h)
