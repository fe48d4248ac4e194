use Rattle.lk_trim.specs.Trees.{hex_fields}
use Rattle.lk_trim.proofs.Appending.{more, hex_one}
use Rattle.lk_trim.proofs.fields.add_bytes.Goals as goal

pub loop-byte-preserved : goal.loop-byte-preserved
loop-byte-preserved c =
    more hex_fields hex_one _ _ _ c.in-Some.byte.now c.loop-byte.rest.now c.in-Some.more.now c.in-Some.ensures.cases.0 c.in_ok-add_byte.ensures c.loop-byte.invariant
