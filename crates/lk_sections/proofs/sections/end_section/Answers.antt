use Rattle.std.proofs.Common.{◌++◌, codes, refl, ap, ◌∙◌, append_assoc}
use Rattle.lk_trim.specs.Written.{fields}
use Rattle.lk_trim.proofs.Chains.{line_writes}
use Rattle.lk_sections.specs.Lines.{numbers_from}
use Rattle.lk_sections.specs.Sections.{parts_text}
use Rattle.lk_sections.proofs.sections.end_section.Goals as goal

pub returns : goal.returns
returns c d k =
    let named = fields (numbers_from c.args.first c.args.parts.now) in
    line_writes k (parts_text c.args.first c.args.parts.now) c.add_premises.new.out.items
    (c.in_ok-add_premises.ensures ∙ ap (λ x. x ++ named) c.in_ok-extend_from_slice.ensures.items ∙ append_assoc c.args.writer.now.out.items (codes "#OK") named)
    c.in_ok-push.ensures.items refl
