-- What is so of a row under way at another state.
use Rattle.std.proofs.Common.{ℕ, ◌≡◌, Bool, true, Option, Some, None, sym, subst}
use Rattle.std.specs.Prelude.{Result, IfOk, IfSome}
use Rattle.lk_tree.specs.Tree.{Tree}
use Rattle.lk_rulebook.specs.Place.{Place}
use Rattle.lk_questions.specs.Query.{Query, core}
use Rattle.lk_store.specs.Contents.{Contents}
use Rattle.lk_env.specs.StoredLibrary.{StoredLibrary}
use Rattle.lk_step.specs.declared.step.Row.{Row}
use Rattle.lk_step.specs.Rows.{IsClaim}
use Rattle.lk_step.specs.Meaning.{IsRowIn, IsRowOf}
use Rattle.lk_step.specs.Parts.{IsWhole}
use Rattle.lk_derive_iota.specs.declared.redexes.Redex.{Redex}
use Rattle.lk_derive_iota.specs.Redexes.{IsSplit}
use Rattle.lk_derive_iota.specs.Stages.{at_subject, IsUnderWay, HasRead}
use Rattle.lk_derive_iota.specs.Taken.{IsTaken, IsAskedFor}

module _ {w w' : Place} {l l' : StoredLibrary} {c : Contents} {r : Row} {most : ℕ} {u : Redex} (ew : w' ≡ w) (el : l' ≡ l) where
  pub subject_on : {n n' : Tree} → n' ≡ n → IsUnderWay w l c r most u n (at_subject n) 0 → IsUnderWay w' l' c r most u n' (at_subject n') 0
  subject_on {n = n} {n' = n'} en h =
      subst (λ z. IsUnderWay z l' c r most u n' (at_subject n') 0) (sym ew) (subst (λ z. IsUnderWay w z c r most u n' (at_subject n') 0) (sym el) (subst (λ z. IsUnderWay w l c r most u z (at_subject z) 0) (sym en) h))

  pub read_on : {W n : Tree} → HasRead w l c r most u W n → HasRead w' l' c r most u W n
  read_on {W = W} {n = n} h = subst (λ z. HasRead z l' c r most u W n) (sym ew) (subst (λ z. HasRead w z c r most u W n) (sym el) h)

  pub asked_on : {m m' d d' S T D : Tree} → m' ≡ m → d' ≡ d → IsAskedFor w l c r most u m d S T D → IsAskedFor w' l' c r most u m' d' S T D
  asked_on {m = m} {m' = m'} {d = d} {d' = d'} {S = S} {T = T} {D = D} em ed h =
      subst (λ z. IsAskedFor z l' c r most u m' d' S T D) (sym ew) (subst (λ z. IsAskedFor w z c r most u m' d' S T D) (sym el)
      (subst (λ z. IsAskedFor w l c r most u z d' S T D) (sym em) (subst (λ z. IsAskedFor w l c r most u m z S T D) (sym ed) h)))

  pub taken_there : {m d : Tree} → IsTaken w l c r most u m d → IsTaken w' l' c r most u m d
  taken_there {m = m} {d = d} h = subst (λ z. IsTaken z l' c r most u m d) (sym ew) (subst (λ z. IsTaken w z c r most u m d) (sym el) h)

pub subjects_on : {E : Type 0} {w w' : Place} {l l' : StoredLibrary} (c : Contents) (r : Row) (most : ℕ) (u : Redex) → w' ≡ w → l' ≡ l → (o : Result ℕ E) (t : ℕ → Tree) → IfOk o (λ v. IsUnderWay w l c r most u (t v) (at_subject (t v)) 0) →
    IfOk o (λ v. IsUnderWay w' l' c r most u (t v) (at_subject (t v)) 0)
subjects_on {w = w} {l = l} {l' = l'} c r most u ew el o t h =
    subst (λ z. IfOk o (λ v. IsUnderWay z l' c r most u (t v) (at_subject (t v)) 0)) (sym ew) (subst (λ z. IfOk o (λ v. IsUnderWay w z c r most u (t v) (at_subject (t v)) 0)) (sym el) h)

pub claim_at : {w w' : Place} {e e' : Tree} {most : ℕ} → w' ≡ w → e' ≡ e → IsClaim w (core e) most → IsClaim w' (core e') most
claim_at {w = w} {e' = e'} {most = most} ew ee h = subst (λ z. IsClaim z (core e') most) (sym ew) (subst (λ z. IsClaim w (core z) most) (sym ee) h)

pub split_on : {w w' : Place} {l l' : StoredLibrary} (c : Contents) {e e' : Tree} → w' ≡ w → l' ≡ l → e' ≡ e → (o : Option Redex) → IsSplit w c l e o → IsSplit w' c l' e' o
split_on {w = w} {l = l} {l' = l'} c {e' = e'} ew el ee o h =
    subst (λ z. IsSplit z c l' e' o) (sym ew) (subst (λ z. IsSplit w c z e' o) (sym el) (subst (λ z. IsSplit w c l z o) (sym ee) h))

-- the row is kept where it is whole
module _ {w : Place} {c : Contents} {q : Query} {row : Row} {whole : Bool} where
  pub kept_known : (o : Option Row) → IfSome o (λ r. (r ≡ row) × (whole ≡ true)) → (whole ≡ true → IsWhole w c q row) → IfSome o (IsRowIn c)
  kept_known (Some r) h f = subst (IsRowIn c) (sym h.0) (f h.1).known
  kept_known None h f = tt

  pub kept_row : (o : Option Row) → IfSome o (λ r. (r ≡ row) × (whole ≡ true)) → (whole ≡ true → IsWhole w c q row) → IfSome o (IsRowOf w c q)
  kept_row (Some r) h f = subst (IsRowOf w c q) (sym h.0) (f h.1).row
  kept_row None h f = tt
