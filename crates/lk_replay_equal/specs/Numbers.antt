-- Numbers, and zero and successors.
use Rattle.std.specs.Prelude.{ℕ, zero, suc, Bool, true, false, Option, Some, None}
use Rattle.lk_tree.specs.Tree.{Tree, lit}
use Rattle.lk_rulebook.specs.Names.{named, nat_zero}
use Rattle.lk_written.specs.Premises.{Left}
use Rattle.lk_written.specs.Typing.{comes_to}

abbrev pub is_zero : Tree → Bool
is_zero (lit zero) = true
is_zero (lit (suc n)) = false
is_zero _ = false

-- e is Nat.zero, and no premise is left
abbrev pub zero_is : Left → Tree → Option (Unit {0})
zero_is js e = comes_to e (named nat_zero) js

-- the number before the one that the tree is
abbrev pub before : Tree → Option ℕ
before (lit zero) = None
before (lit (suc n)) = Some n
before _ = None
