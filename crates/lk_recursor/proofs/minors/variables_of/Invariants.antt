use Rattle.std.proofs.Common.{◌≡◌, map, take}
use Rattle.lk_block.specs.declared.shape.Field.{Field}
use Rattle.lk_recursor.proofs.minors.variables_of.Given as goal

abbrev pub invariant-loop-field : goal.invariant-loop-field
invariant-loop-field l = l.found.items ≡ map (λ (f : Field). f.variable) (take l.field-index l.fields)
