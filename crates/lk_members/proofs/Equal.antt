-- Equal lists of names, by their numbers.
use Rattle.std.proofs.Common.{◌≡◌, ℕ, Bool, true, false, List, [], ◌∷◌, refl, ap, ◌∙◌, arith}
use Rattle.std.specs.Prelude.{◌&&◌, nat_eq}
use Rattle.std.proofs.lemmas.Bool.{false≢true}
use Rattle.std.proofs.lemmas.Bool.Decides.{nat_tests}
use Rattle.lk_members.specs.Lines.{same_list}

pub number_itself : (n : ℕ) → nat_eq n n ≡ true
number_itself n = grind (arith, nat_tests)

pub number_is : (m n : ℕ) → nat_eq m n ≡ true → m ≡ n
number_is m n e = grind (arith, nat_tests)

pub both_hold : (a b : Bool) → (a && b) ≡ true → (a ≡ true) × (b ≡ true)
both_hold true true e = (refl, refl)
both_hold true false e = absurd (false≢true e)
both_hold false b e = absurd (false≢true e)

pub list_itself : (us : List ℕ) → same_list nat_eq us us ≡ true
list_itself [] = refl
list_itself (u ∷ us) = rw (number_itself u, list_itself us) refl

pub list_is : (us ts : List ℕ) → same_list nat_eq us ts ≡ true → us ≡ ts
list_is [] [] e = refl
list_is [] (t ∷ ts) e = absurd (false≢true e)
list_is (u ∷ us) [] e = absurd (false≢true e)
list_is (u ∷ us) (t ∷ ts) e =
    let h = both_hold (nat_eq u t) (same_list nat_eq us ts) e in
    let one = number_is u t h.0 in
    let more = list_is us ts h.1 in
    ap (λ x. x ∷ us) one ∙ ap (λ x. t ∷ x) more

pub lists_differ : (us ts : List ℕ) → (us ≡ ts → ⊥) → same_list nat_eq us ts ≡ false
lists_differ us ts f = go (same_list nat_eq us ts) refl
  where
    go : (b : Bool) → same_list nat_eq us ts ≡ b → same_list nat_eq us ts ≡ false
    go true e = absurd (f (list_is us ts e))
    go false e = e
