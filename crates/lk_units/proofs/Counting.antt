-- Items are counted.
use Rattle.std.proofs.Common.{◌≡◌, ℕ, ◌<◌, ◌+◌, ◌-◌, ◌≤◌, true, false, nat_lt, refl, Ok, Err, arith}
use Rattle.std.specs.Prelude.{◌^◌}
use Rattle.std.proofs.lemmas.Bool.Decides.{nat_tests}
use Rattle.lk_lines.specs.declared.words.Word.TheVariants.{TooManyItems}
use Rattle.lk_units.specs.State.{State, counted}

pub counted_is : (s : State) (n : ℕ) → n ≡ s.count → n < 2 ^ 32 - 1 → counted s ≡ Ok (record s { count = s.count + 1 })
counted_is s n e h = let t : nat_lt s.count (2 ^ 32 - 1) ≡ true = grind (arith, nat_tests) in rw t refl

pub too_many : (s : State) (n : ℕ) → n ≡ s.count → 2 ^ 32 - 1 ≤ n → counted s ≡ Err TooManyItems
too_many s n e h = let t : nat_lt s.count (2 ^ 32 - 1) ≡ false = grind (arith, nat_tests) in rw t refl
