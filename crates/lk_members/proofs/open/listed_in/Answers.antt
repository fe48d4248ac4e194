use Rattle.std.proofs.Common.{rules}
use Rattle.lk_members.specs.Stored.{line_of, lines_of}
use Rattle.lk_members.proofs.Listing.{lists, passes}
use Rattle.lk_members.proofs.open.listed_in.Goals as goal

pub loop-line-preserved-in_ok-list_all : goal.loop-line-preserved-in_ok-list_all
loop-line-preserved-in_ok-list_all c =
    lists (lines_of c.args.lines.now) (line_of c.in-Some.line.now) (lines_of c.in-Some.more.now) c.in-Type.head.value.name c.in-Type.types.items c.in-Type.head.value.constructors.items c.in-Type.head.value c.loop-line.listed c.list_all.new.listed (search rules) (search rules) (search rules)

pub loop-line-preserved : goal.loop-line-preserved
loop-line-preserved c =
    passes (lines_of c.args.lines.now) (line_of c.in-Some.line.now) (lines_of c.in-Some.more.now) c.loop-line.listed (search rules) (search rules)
