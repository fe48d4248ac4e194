-- What the tree of an operation's value is.
use Rattle.std.proofs.Common.{ℕ, ◌≡◌, Option, Some, None, refl}
use Rattle.lk_tree.specs.Tree.{Tree, lit}
use Rattle.lk_tree.specs.WellFormed.{IsWellFormed}
use Rattle.lk_tree.specs.Operations.{Value, number}
use Rattle.lk_rulebook.specs.Place.{Place}
use Rattle.lk_rulebook.specs.Literals.{IsResult, a_number, a_truth}

pub result_number : {w : Place} {o : Option Value} {r : Tree} (n : ℕ) → IsResult w o r → o ≡ Some (number n) → (r ≡ lit n) × IsWellFormed (lit n)
result_number n (a_number {n = m} h) e = let i : m ≡ n = cc in (rw i refl, rw (← i) h)
result_number n (a_truth h) e = absurd cc

pub no_result : {w : Place} {o : Option Value} {r : Tree} → IsResult w o r → o ≡ None → ⊥
no_result (a_number h) e = absurd cc
no_result (a_truth h) e = absurd cc
