-- By which numbers parts of one store are known in another.
use Rattle.std.specs.Prelude.{◌≡◌, ℕ, ◌⊎◌, Bool, if◌then◌else◌, Some, None, IsSome}
use Rattle.std.specs.declared.option.Option.{Option}
use Rattle.std.specs.HashMap.{get}
use Rattle.lk_store.specs.Contents.{Contents}
use Rattle.lk_spell.specs.Parts.{number_of, IsSame}
use Rattle.lk_spell.specs.Sizes.{is_within}
use Rattle.lk_spell.specs.declared.part.Part.{Part}
use Rattle.lk_spell.specs.contracts.part.PartPartialEq.TheImpl as impl
use Rattle.lk_spell.specs.declared.numbers.Numbers.{Numbers}

abbrev pub part_eq : Part → Part → Bool
part_eq = impl.ghosts.eq

unfoldable pub number_in : Numbers → Part → Option ℕ
number_in m p = if is_within m.base p then Some (number_of p) else get part_eq m.own p

-- it, or 0 where there is none
abbrev pub or_zero : Option ℕ → ℕ
or_zero (Some n) = n
or_zero None = 0

abbrev pub number_or : Numbers → Part → ℕ
number_or m p = or_zero (number_in m p)

-- it has a number
abbrev pub IsDone : Numbers → Part → Type 0
IsDone m p = IsSome (number_in m p)

-- each number stands in d for what its part stands for in c
abbrev pub Translates : Contents → Contents → Numbers → Type 0
Translates c d m = (p : Part) (n : ℕ) → number_in m p ≡ Some n → IsSame c d p n

-- the part has a number, and no other got one
pub record Adds (old new : Numbers) (p : Part) (n : ℕ) : Type 0 where
  pub came : (q : Part) (r : ℕ) → number_in new q ≡ Some r → (number_in old q ≡ Some r) ⊎ ((q ≡ p) × (r ≡ n))
  pub stays : (q : Part) → IsDone old q → IsDone new q
  pub there : IsDone new p
