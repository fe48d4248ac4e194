use Rattle.std.proofs.Common.{rules, sym}
use Rattle.lk_units.proofs.Turns.{none_there}
use Rattle.lk_units.proofs.numbering.Numbering.find_other.Goals as goal

pub returns-then-is_empty : goal.returns-then-is_empty
returns-then-is_empty c = sym (none_there c.args.self.now.map.entries c.args.number (search rules))
