-- The bytes of a text: few of them stand in place, in front of room that is left.
use Rattle.std.specs.Prelude.{◌≤◌, ℕ, List, take}
use Rattle.lk_store.specs.declared.text.TextBytes.{TextBytes}
use Rattle.lk_store.specs.declared.text.TextBytes.TheVariants.{Short, Long}

abbrev pub bytes_of : TextBytes → List ℕ
bytes_of (Short len room) = take len room
bytes_of (Long bytes) = bytes.items

abbrev pub IsWithinRoom : TextBytes → Type 0
IsWithinRoom (Short len room) = len ≤ 30
IsWithinRoom (Long bytes) = Unit {0}
