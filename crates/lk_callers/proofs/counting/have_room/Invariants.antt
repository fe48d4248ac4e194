use Rattle.std.proofs.Common.{◌≡◌, ◌≤◌, length, take}
use Rattle.lk_callers.specs.Owned.{all_units, bytes_in}
use Rattle.lk_callers.proofs.counting.have_room.Given as goal

abbrev pub invariant-loop-text : goal.invariant-loop-text
invariant-loop-text g l = (l.units ≡ length (all_units g.T.Reads.stated (take l.text-index (bytes_in l.texts)))) × (l.units ≤ 65536)
