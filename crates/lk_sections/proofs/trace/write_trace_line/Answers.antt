use Rattle.std.proofs.Common.{refl}
use Rattle.lk_lines.specs.declared.tags.Tag.TheVariants as tag
use Rattle.lk_lines.specs.Tags.{tag_word}
use Rattle.lk_trim.proofs.Chains.{line_writes}
use Rattle.lk_sections.proofs.trace.write_trace_line.Goals as goal

pub returns : goal.returns
returns c d k = line_writes k (λ w. tag_word tag.Trace) c.extend_from_slice.new.self.items c.in_ok-extend_from_slice.ensures.items c.in_ok-push.ensures.items refl
