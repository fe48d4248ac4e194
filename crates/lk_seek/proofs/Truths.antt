-- Whether something is found, in one part or another.
use Rattle.std.proofs.Common.{◌≡◌, Bool, true, false, refl}
use Rattle.std.specs.Prelude.{◌||◌}
use Rattle.lk_seek.specs.Sought.{AreFindings, truth}

or_false : (a : Bool) → (a || false) ≡ a
or_false true = refl
or_false false = refl

or_assoc : (a b c : Bool) → ((a || b) || c) ≡ (a || (b || c))
or_assoc true b c = refl
or_assoc false b c = refl

pub truth_laws : {E : Type 0} → AreFindings (truth {E = E})
truth_laws = record { first = λ a. refl; next = λ a. refl; last = or_false; assoc = or_assoc; stops = λ a b e h. tt }
