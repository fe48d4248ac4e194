-- Projections that equal fields, one after another.
use Rattle.std.proofs.Common.{◌≡◌, ℕ, suc, List, ◌∷◌, Option, Some, None, sym, ap, ◌∙◌}
use Rattle.lk_tree.specs.Tree.{Name, Tree, proj}
use Rattle.lk_rulebook.specs.Claims.{Claim}
use Rattle.lk_questions.specs.Tests.{◌>>=◌}
use Rattle.lk_written.specs.Premises.{Left, equal}
use Rattle.lk_written.specs.Equal.{fields_equal}

module _ (ps : List Claim) (J : Name) (a : Tree) (js : Left) (j : ℕ) (x : Tree) (xs : List Tree) where
  -- one field more
  pub fields_on : (i : ℕ) (r : Left) → i ≡ suc j → equal ps js (proj J j a) x ≡ Some r → fields_equal ps r J a i xs ≡ fields_equal ps js J a j (x ∷ xs)
  fields_on i r e h =
      ap (λ n. fields_equal ps r J a n xs) e
      ∙ sym (ap (λ o. o >>= λ q. fields_equal ps q J a (suc j) xs) h)

  pub fields_stop : equal ps js (proj J j a) x ≡ None → fields_equal ps js J a j (x ∷ xs) ≡ None
  fields_stop h = ap (λ o. o >>= λ q. fields_equal ps q J a (suc j) xs) h
