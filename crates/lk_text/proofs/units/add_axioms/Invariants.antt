use Rattle.std.proofs.Common.{◌≡◌, ◌++◌, length}
use Rattle.lk_env.specs.Units.{library_of}
use Rattle.lk_text.specs.Text.{axioms_text}
use Rattle.lk_text.proofs.units.add_axioms.Given as goal

abbrev pub invariant-loop-number : goal.invariant-loop-number
invariant-loop-number l =
    let us = library_of l.library in
    l.out.items ++ axioms_text us l.rest ≡ l.fn.out.items ++ axioms_text us l.axioms

abbrev pub decreases-loop-number : goal.decreases-loop-number
decreases-loop-number l = length l.rest
