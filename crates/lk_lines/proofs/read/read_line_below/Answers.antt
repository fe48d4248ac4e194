use Rattle.std.proofs.Common.{rules}
use Rattle.lk_lines.specs.Says.{said_below}
use Rattle.lk_lines.proofs.LineFeedLaws.{names_lem}
use Rattle.lk_lines.proofs.read.read_line_below.Goals as goal

pub returns-in-Ok-clause-names : goal.returns-in-Ok-clause-names
unfolding said_below
returns-in-Ok-clause-names g c = names_lem g.N.FileNumber.view c.args.dialect c.args.first c.args.bytes.now _ c.requires (search rules)
