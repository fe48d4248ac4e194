use Rattle.std.proofs.Common.{◌≡◌}
use Rattle.std.specs.Prelude.{drop}
use Rattle.lk_env.specs.Units.{library_of}
use Rattle.lk_text.specs.Named.{first_printed}
use Rattle.lk_text.proofs.named.unit_named.Given as goal

abbrev pub invariant-loop-n : goal.invariant-loop-n
invariant-loop-n l =
    let us = library_of l.library in
    first_printed l.n (drop l.n us) l.text ≡ first_printed 0 us l.text
