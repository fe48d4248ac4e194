-- The list of one unit among those of all.
use Rattle.std.proofs.Common.{ℕ, ◌≡◌, ◌<◌, [], length, get_or, arith}
use Rattle.std.proofs.lemmas.List.FromFn.{length-map-range_with_len, get_or-map-range_with_len}
use Rattle.lk_rulebook.specs.Units.{Library}
use Rattle.lk_reach.specs.Computed.{axioms_of}
use Rattle.lk_axioms.specs.Lists.{axiom_lists}

pub length-axiom_lists : (us : Library) → length (axiom_lists us) ≡ length us
length-axiom_lists us = length-map-range_with_len (axioms_of us) 0 (length us)

pub get_or-axiom_lists : (us : Library) (n : ℕ) → n < length us → get_or (axiom_lists us) n [] ≡ axioms_of us n
get_or-axiom_lists us n l = get_or-map-range_with_len (axioms_of us) 0 (length us) n n [] l (omega arith)
