-- New passes, one more of them.
use Rattle.std.proofs.Common.{◌≡◌, ℕ, zero, suc, ◌<◌, List, [], ◌∷◌, ◌++◌, length, get_or, refl, sym, subst, arith, inl, inr, length-append}
use Rattle.std.specs.Prelude.{slice_index_or}
use Rattle.std.proofs.lemmas.Bool.{cases_lt}
use Rattle.lk_callers.specs.declared.calling.Called.{Called}
use Rattle.lk_callers.specs.Answered.{AreNew, IsNew}

get_front : {A : Type 0} (xs : List A) (x d : A) (i : ℕ) → i < length xs → get_or (xs ++ x ∷ []) i d ≡ get_or xs i d
get_front [] x d i lt = absurd (omega arith)
get_front (y ∷ xs) x d zero lt = refl
get_front (y ∷ xs) x d (suc i) lt = get_front xs x d i (omega arith)

get_end : {A : Type 0} (xs : List A) (x d : A) → get_or (xs ++ x ∷ []) (length xs) d ≡ x
get_end [] x d = refl
get_end (y ∷ xs) x d = get_end xs x d

pub new_more : {B T : Type 0} (cs more : List (Called B T)) (c : Called B T) → AreNew cs → IsNew (length cs) c → more ≡ cs ++ c ∷ [] → AreNew more
new_more {B} {T} cs more c are one is = subst (λ (l : List (Called B T)). AreNew l) (sym is) each
  where
    each : AreNew (cs ++ c ∷ [])
    each i d lt = elim (cases_lt i (length cs)) [
      | inl l ↦ subst (IsNew i) (sym (get_front cs c d i l)) (are i d l)
      | inr ge ↦
          let n = length-append cs (c ∷ []) in
          let e : length cs ≡ i = omega (arith, lt, ge, n) in
          subst (λ (j : ℕ). IsNew j (slice_index_or (cs ++ c ∷ []) j d)) e (subst (IsNew (length cs)) (sym (get_end cs c d)) one)
    ]
