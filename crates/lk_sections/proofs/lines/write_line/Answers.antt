use Rattle.std.proofs.Common.{refl, ap, sym}
use Rattle.lk_trim.specs.Written.{line}
use Rattle.lk_trim.proofs.Chains.{then_writes, line_writes, writes_as}
use Rattle.lk_sections.specs.Lines.{line_text, write_trees}
use Rattle.lk_sections.specs.Stored.{fields_at}
use Rattle.lk_sections.proofs.Written.{fields_are}
use Rattle.lk_sections.proofs.lines.write_line.Goals as goal

pub returns : goal.returns
returns g c =
    let s = g.T.Terms.contents c.args.store.now in
    let l = c.args.line.now in
    let says = line_text c.args.first c.args.number in
    writes_as (ap (λ d f. line (says d) (write_trees d f)) (sym (fields_are s l)))
    (then_writes c.in_ok-write_trees.ensures
    (line_writes c.in_ok-write_trees.ensures.numbers (says (fields_at s l)) c.add_line.new.out.items c.in_ok-add_line.ensures c.in_ok-push.ensures.items refl))
