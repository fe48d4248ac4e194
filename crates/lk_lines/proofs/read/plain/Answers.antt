use Rattle.lk_lines.specs.Items.{plain_at}
use Rattle.lk_lines.proofs.read.plain.Goals as goal

pub returns-in-Go : goal.returns-in-Go
unfolding plain_at
returns-in-Go g c text = rw (c.in_ok-tag.ensures, c.in-Go.is) (c.go.ensures text)

pub returns-in-Trace : goal.returns-in-Trace
unfolding plain_at
returns-in-Trace g c text = rw (c.in_ok-tag.ensures, c.in-Trace.is) (c.trace.ensures text)
