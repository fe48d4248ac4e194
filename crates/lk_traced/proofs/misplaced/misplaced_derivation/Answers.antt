use Rattle.lk_units.specs.State.{State}
use Rattle.std.specs.Prelude.{None}
use Rattle.lk_trace.specs.Meaning.{line_of}
use Rattle.lk_traced.proofs.Refusing.{makes_misplaced}
use Rattle.lk_traced.proofs.misplaced.misplaced_derivation.Goals as goal

pub returns : goal.returns
returns c = λ k s h.
    makes_misplaced State (line_of k) c.derived_line.result _ c.misplaced.result (c.derived_line.ensures.made k s (λ j. None) h.trees c.new-none.ensures) c.misplaced.ensures.ok c.misplaced.ensures.err
