use Rattle.std.proofs.Common.{◌≡◌, take, if◌then◌else◌}
use Rattle.std.specs.List.{sum_by}
use Rattle.lk_quot.specs.Equality.{constructor_count}
use Rattle.lk_quot.proofs.equality.have_one_constructor.Given as goal

abbrev pub invariant-loop-ty : goal.invariant-loop-ty
invariant-loop-ty l =
    sum_by constructor_count (take l.ty-index l.types) ≡ (if l.found then 1 else 0)
