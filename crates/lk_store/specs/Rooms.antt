-- The room that a walk works in.
use Rattle.std.specs.Prelude.{◌≡◌, ℕ, []}
use Rattle.lk_store.specs.Hashes.{hash_of_pair}
use Rattle.lk_store.specs.declared.room.Spot.{Spot}
use Rattle.lk_store.specs.declared.room.Room.{Room}

abbrev pub hash_of_spot : ℕ → Spot → ℕ
hash_of_spot seed s = hash_of_pair seed s.e s.depth

-- no node waits, and nothing was made
pub record IsEmpty (room : Room) : Type 0 where
  pub stack : room.stack.items ≡ []
  pub made : room.made ≡ []
