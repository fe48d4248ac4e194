-- The place of a later unit at which names of an earlier block may be partial still.
use Rattle.std.specs.Prelude.{ℕ, take}
use Rattle.lk_rulebook.specs.Place.{Place}
use Rattle.lk_rulebook.specs.Units.{Library, Members, given_by, first_of_two, first_giving, at_partial, place_by}

-- what a unit gives goes before what is partial: a name is partial only where no unit before number m gives it
abbrev pub later_place : Library → ℕ → Members → Place
later_place us m partial = place_by m (λ c. first_of_two (first_giving 0 (take m us) c) (at_partial m (given_by partial c)))
