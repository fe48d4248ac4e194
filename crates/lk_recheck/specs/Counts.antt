-- How many things there are of each kind, as numbers of 32 bits.
use Rattle.std.specs.Prelude.{◌≡◌, ◌<◌, ◌^◌, ℕ, length}
use Rattle.lk_recheck.specs.declared.counts.Counts.{Counts}
use Rattle.lk_needs.specs.declared.thing.Thing.{Thing}
use Rattle.lk_needs.specs.Marks.{Room, IsThing}
use Rattle.lk_recheck.specs.declared.sources.Sources.{Sources}
use Rattle.lk_recheck.specs.Sources.{slot, slots, AreLinked}

abbrev pub room_by : Counts → Room
room_by k =
    record { units = k.units; names = k.names; trees = k.trees; numbered = k.names }

-- the number of each thing has 32 bits
abbrev pub AreFew : Counts → Type 0
AreFew k = slots (room_by k) < 2 ^ 32

-- the thing of this number
pub record IsThingAt (r : Room) (i : ℕ) (t : Thing) : Type 0 where
  pub thing_in : IsThing r t
  pub is : slot r t ≡ i

-- it counts the things of this room
pub record IsCountOf (r : Room) (k : Counts) : Type 0 where
  pub few : AreFew k
  pub room : room_by k ≡ r

-- chains for just so many things
pub record IsTable (k : Counts) (t : Sources) : Type 0 where
  pub few : AreFew k
  pub linked : AreLinked t
  pub as_many : length t.last.items ≡ slots (room_by k)
