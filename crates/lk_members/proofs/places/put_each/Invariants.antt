use Rattle.std.proofs.Common.{◌≡◌, ℕ, Some, None, nat_eq, if◌then◌else◌, take}
use Rattle.std.specs.HashMap as hash_map
use Rattle.lk_members.specs.Lines.{has, or_next}
use Rattle.lk_members.proofs.places.put_each.Given as goal

abbrev pub invariant-loop-name : goal.invariant-loop-name
invariant-loop-name l = (q : ℕ) → hash_map.get nat_eq l.places q ≡ or_next (hash_map.get nat_eq l.fn.places q) (if has nat_eq (take l.name-index l.names) q then Some l.place else None)
