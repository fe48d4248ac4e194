-- The stack of a walk.
use Rattle.std.proofs.Common.{◌≡◌, ℕ, ◌+◌, ◌<◌, List, [], ◌∷◌, ◌++◌, refl, ap, sym, subst, ◌∙◌, arith}
use Rattle.lk_trim.specs.declared.visit.Visit.{Visit}
use Rattle.lk_trim.specs.declared.visit.Visit.TheVariants.{Enter, Leave}
use Rattle.lk_trim.specs.Written.{File}
use Rattle.lk_trim.specs.Walks.{Walk, rest_of, AreVisits, turns, IsEntered}

module _ (w : Walk) where
  rest-append : (xs ys : List Visit) (f : File) → rest_of w (xs ++ ys) f ≡ rest_of w xs (rest_of w ys f)
  rest-append [] ys f = refl
  rest-append (Enter e ∷ xs) ys f = ap (w.writes e) (rest-append xs ys f)
  rest-append (Leave e ∷ xs) ys f = ap (w.adds e) (rest-append xs ys f)

  turns-append : (xs ys : List Visit) → turns w (xs ++ ys) ≡ turns w xs + turns w ys
  turns-append [] ys = omega arith
  turns-append (Enter e ∷ xs) ys = let i = turns-append xs ys in omega arith
  turns-append (Leave e ∷ xs) ys = let i = turns-append xs ys in omega arith

  visits-append : (xs ys : List Visit) → AreVisits w xs → AreVisits w ys → AreVisits w (xs ++ ys)
  visits-append [] ys h k = k
  visits-append (Enter e ∷ xs) ys h k = (h.0, visits-append xs ys h.1 k)
  visits-append (Leave e ∷ xs) ys h k = (h.0, visits-append xs ys h.1 k)

  visits-left : (xs ys : List Visit) → AreVisits w (xs ++ ys) → AreVisits w xs
  visits-left [] ys h = tt
  visits-left (Enter e ∷ xs) ys h = (h.0, visits-left xs ys h.1)
  visits-left (Leave e ∷ xs) ys h = (h.0, visits-left xs ys h.1)

  visits-right : (xs ys : List Visit) → AreVisits w (xs ++ ys) → AreVisits w ys
  visits-right [] ys h = h
  visits-right (Enter e ∷ xs) ys h = visits-right xs ys h.1
  visits-right (Leave e ∷ xs) ys h = visits-right xs ys h.1

  module _ (stack rest : List Visit) (e : ℕ) where
    -- a part is entered
    module _ (popped : stack ≡ rest ++ Enter e ∷ []) where
      pub enters_in : AreVisits w stack → e < w.size
      enters_in h = (visits-right rest (Enter e ∷ []) (subst (AreVisits w) popped h)).0

      module _ (new : List Visit) (f g : File) (i : IsEntered w e rest new f g) where
        pub enters_known : AreVisits w stack → AreVisits w new
        enters_known h = subst (AreVisits w) (sym i.is) (visits-append rest i.pushed (visits-left rest (Enter e ∷ []) (subst (AreVisits w) popped h)) i.known)

        pub enters_less : turns w new < turns w stack
        enters_less =
            let a = ap (turns w) popped ∙ turns-append rest (Enter e ∷ []) in
            let b = ap (turns w) i.is ∙ turns-append rest i.pushed in
            let l = i.less in
            omega arith

        pub enters_leads : (h : File) → rest_of w stack f ≡ h → rest_of w new g ≡ h
        enters_leads h r =
            ap (λ s. rest_of w s g) i.is ∙ rest-append rest i.pushed g ∙ ap (rest_of w rest) i.leads
            ∙ sym (rest-append rest (Enter e ∷ []) f) ∙ ap (λ s. rest_of w s f) (sym popped) ∙ r

    -- and left
    module _ (popped : stack ≡ rest ++ Leave e ∷ []) where
      pub leaves_in : AreVisits w stack → e < w.size
      leaves_in h = (visits-right rest (Leave e ∷ []) (subst (AreVisits w) popped h)).0

      pub leaves_known : AreVisits w stack → AreVisits w rest
      leaves_known h = visits-left rest (Leave e ∷ []) (subst (AreVisits w) popped h)

      pub leaves_less : turns w rest < turns w stack
      leaves_less = let a = ap (turns w) popped ∙ turns-append rest (Leave e ∷ []) in omega arith

      pub leaves_leads : (f g h : File) → g ≡ w.adds e f → rest_of w stack f ≡ h → rest_of w rest g ≡ h
      leaves_leads f g h is r = ap (rest_of w rest) is ∙ sym (rest-append rest (Leave e ∷ []) f) ∙ ap (λ s. rest_of w s f) (sym popped) ∙ r
