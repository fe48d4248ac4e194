use Rattle.std.proofs.Common.{◌≡◌, length}
use Rattle.std.specs.Prelude.{◌||◌}
use Rattle.std.specs.HashSet.{contains}
use Rattle.lk_members.specs.declared.members.Key.{Key}
use Rattle.lk_members.specs.Indices.{key_eq}
use Rattle.lk_members.specs.Finishing.{is_listed_by}
use Rattle.lk_members.proofs.open.list_all.Given as goal

abbrev pub invariant-loop-name : goal.invariant-loop-name
invariant-loop-name l = (q : Key) → (is_listed_by l.under l.rest q || contains key_eq l.listed q) ≡ (is_listed_by l.under l.names q || contains key_eq l.initial.listed q)

abbrev pub decreases-loop-name : goal.decreases-loop-name
decreases-loop-name l = length l.rest
