-- What is found first, one part after the other.
use Rattle.std.proofs.Common.{◌≡◌, refl, ap}
use Rattle.lk_seek.specs.Sought.{AreFindings}
use Rattle.lk_store.specs.Contents.{Contents}
use Rattle.lk_ask.specs.declared.stop.Stop.TheVariants.{No, Spent, NoMemory}
use Rattle.lk_nested.specs.Unmet.{First, nothing, new, refused_by, first_of}
use Rattle.lk_nested.specs.Halts.{Halt, met, halted, IsHalt, firsts}

first_assoc : (a b d : First) → first_of (first_of a b) d ≡ first_of a (first_of b d)
first_assoc nothing b d = refl
first_assoc (new o) b d = refl
first_assoc (refused_by r) b d = refl

first_last : (a : First) → first_of a nothing ≡ a
first_last nothing = refl
first_last (new o) = refl
first_last (refused_by r) = refl

halts_first : (c : Contents) (a b : First) (h : Halt) → IsHalt c a h → IsHalt c (first_of a b) h
halts_first c a b (met o) h = (h.0, ap (λ x. first_of x b) h.1)
halts_first c a b (halted (No r)) h = ap (λ x. first_of x b) h
halts_first c a b (halted Spent) h = absurd h
halts_first c a b (halted NoMemory) h = tt

pub first_laws : (c : Contents) → AreFindings (firsts c)
first_laws c = record { first = λ a. refl; next = λ a. refl; last = first_last; assoc = first_assoc; stops = halts_first c }
