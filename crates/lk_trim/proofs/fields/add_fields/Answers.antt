use Rattle.lk_trim.specs.Written.{fields}
use Rattle.lk_trim.proofs.Appending.{more, fields_one}
use Rattle.lk_trim.proofs.fields.add_fields.Goals as goal

pub loop-n-preserved : goal.loop-n-preserved
loop-n-preserved c =
    more fields fields_one _ _ _ c.in-Some.n.now c.loop-n.rest.now c.in-Some.more.now c.in-Some.ensures.cases.0 c.in_ok-add_field.ensures c.loop-n.invariant
