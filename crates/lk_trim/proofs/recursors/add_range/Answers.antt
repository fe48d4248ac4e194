use Rattle.lk_trim.specs.Written.{fields}
use Rattle.lk_trim.proofs.Appending.{more, fields_one}
use Rattle.lk_trim.proofs.Chains.{range_more}
use Rattle.lk_trim.proofs.recursors.add_range.Goals as goal

pub each-preserved : goal.each-preserved
each-preserved c =
    more fields fields_one c.each.out.items c.add_field.new.out.items _ c.each.number _ _ (range_more c.each.number c.args.end c.each-test.true) c.in_ok-add_field.ensures c.each.invariant
