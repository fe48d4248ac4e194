use Rattle.std.proofs.Common.{◌≡◌, ◌++◌, length, map}
use Rattle.lk_store.specs.Contents.{Contents}
use Rattle.lk_env.specs.Units.{type_at, IsTypeIn}
use Rattle.lk_family.proofs.Copied.{BothHave}
use Rattle.lk_family.proofs.copies.copy_types.Given as goal

abbrev pub invariant-types : goal.invariant-types
invariant-types l = record {
  value : (c : Contents) → map (type_at c) l.copies.items ++ map (type_at c) l.rest ≡ map (type_at c) l.fn.stated;
  known : (c : Contents) → BothHave (IsTypeIn c) l.fn.stated l.copies.items l.rest;
}

abbrev pub decreases-types : goal.decreases-types
decreases-types l = length l.rest
