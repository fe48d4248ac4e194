use Rattle.std.proofs.Common.{refl}
use Rattle.lk_trim.proofs.Chains.{line_writes}
use Rattle.lk_sections.specs.Sections.{begin_text}
use Rattle.lk_sections.proofs.sections.begin_section.Goals as goal

pub returns : goal.returns
returns c d k = line_writes k (begin_text c.args.unit) c.add_row.new.out.items (rw c.from.ensures at c.in_ok-add_row.ensures) c.in_ok-push.ensures.items refl
