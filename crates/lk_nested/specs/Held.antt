-- What is found of nested occurrences, one part after the other.
use Rattle.std.proofs.Common.{◌≡◌, Bool, true, false, refl, ap}
use Rattle.lk_seek.specs.Sought.{AreFindings}
use Rattle.lk_ask.specs.declared.stop.Stop.{Stop}
use Rattle.lk_ask.specs.declared.stop.Stop.TheVariants.{No, Spent, NoMemory}
use Rattle.lk_nested.specs.Findings.{Finding, found, refused, asking, then_held, FindsNothing}
use Rattle.lk_nested.specs.Nestings.{nestings}

held_assoc : (a b d : Finding Bool) → then_held (then_held a b) d ≡ then_held a (then_held b d)
held_assoc (found true) b d = refl
held_assoc (found false) b d = refl
held_assoc (refused r) b d = refl
held_assoc asking b d = refl

held_unit : (a : Finding Bool) → then_held a (found false) ≡ a
held_unit (found true) = refl
held_unit (found false) = refl
held_unit (refused r) = refl
held_unit asking = refl

nothing_held : (a b : Finding Bool) (stop : Stop) → FindsNothing a stop → FindsNothing (then_held a b) stop
nothing_held a b (No r) h = ap (λ x. then_held x b) h
nothing_held a b Spent h = absurd h
nothing_held a b NoMemory h = tt

pub nestings_laws : AreFindings nestings
nestings_laws = record { first = λ a. refl; next = λ a. refl; last = held_unit; assoc = held_assoc; stops = nothing_held }
