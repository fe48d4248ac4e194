use Rattle.std.proofs.Common.{◌-◌}
use Rattle.lk_trim.proofs.Chains.{counted_range}
use Rattle.lk_trim.proofs.recursors.add_counted_range.Goals as goal

pub returns : goal.returns
returns c =
    counted_range c.args.out.now.items c.add_field.new.out.items c.add_range.new.out.items c.args.first (c.args.end - c.args.first) c.saturating_sub.result c.in_ok-add_field.ensures c.in_ok-add_range.ensures c.saturating_sub.ensures
