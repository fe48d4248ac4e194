-- Numerals, and the trees of what operations give.
use Rattle.std.proofs.Common.{ℕ, ◌≡◌, Bool, true, false, [], Option, Some, None, refl, if◌then◌else◌, nat_lt, ◌^◌}
use Rattle.lk_tree.specs.Tree.{Name, Tree, const, lit}
use Rattle.lk_tree.specs.Operations.{Value, number, truth}
use Rattle.lk_rulebook.specs.Place.{Place}
use Rattle.lk_rulebook.specs.Names.{nat_zero}
use Rattle.lk_tree.specs.Mentions.{same_name}
use Rattle.lk_rulebook.specs.Literals.{IsNumeral, of_lit, of_zero, IsResult, a_number, a_truth}
use Rattle.lk_questions.specs.Literals.{numeral_of, result_of}
use Rattle.lk_questions.specs.Sound.{IsSound}
use Rattle.lk_claims.proofs.Pieces.{same_name_right, Some_inj, less_number}

zero_numeral : (c : Name) (n : ℕ) (b : Bool) → same_name c nat_zero ≡ b → (if b then Some 0 else None) ≡ Some n → IsNumeral (const c []) n
zero_numeral c n true h e = let i : c ≡ nat_zero = same_name_right c nat_zero h in let j : 0 ≡ n = Some_inj e in rw (i, ← j) of_zero
zero_numeral c n false h e = absurd cc

pub numeral_right : (m : Tree) (n : ℕ) → numeral_of m ≡ Some n → IsNumeral m n
numeral_right (lit k) n e = let i : k ≡ n = Some_inj e in rw i of_lit
numeral_right (const c []) n e = zero_numeral c n (same_name c nat_zero) refl e
numeral_right _ n e = absurd cc

-- the tree of an operation's value
abbrev pub IfResult : Place → Option Value → Option Tree → Type 0
IfResult w o None = Unit {0}
IfResult w o (Some r) = IsResult w o r

number_result : (w : Place) (n top : ℕ) (b : Bool) → nat_lt n top ≡ b → top ≡ 2 ^ 128 → IfResult w (Some (number n)) (if b then Some (lit n) else None)
number_result w n top true h e = a_number (rw (← e) (less_number n top h))
number_result w n top false h e = tt

pub sound_result : (w : Place) (o : Option Value) → IsSound w (result_of o) (IfResult w o)
sound_result w (Some (number n)) = number_result w n (2 ^ 128) (nat_lt n (2 ^ 128)) refl refl
sound_result w (Some (truth b)) = λ g m. a_truth (g, m)
sound_result w None = tt
