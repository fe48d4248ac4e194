use Rattle.std.proofs.Common.{◌≡◌, ◌++◌, length, map}
use Rattle.lk_store.specs.Contents.{Contents}
use Rattle.lk_env.specs.Units.{constructor_at, IsConstructorIn}
use Rattle.lk_family.proofs.Copied.{BothHave}
use Rattle.lk_family.proofs.copies.copy_constructors.Given as goal

abbrev pub invariant-constructors : goal.invariant-constructors
invariant-constructors l = record {
  value : (c : Contents) → map (constructor_at c) l.copies.items ++ map (constructor_at c) l.rest ≡ map (constructor_at c) l.fn.stated;
  known : (c : Contents) → BothHave (IsConstructorIn c) l.fn.stated l.copies.items l.rest;
}

abbrev pub decreases-constructors : goal.decreases-constructors
decreases-constructors l = length l.rest
