use Rattle.std.proofs.lemmas.List.{get_or_read}
use Rattle.std.proofs.Common.{sym, ◌∙◌}
use Rattle.lk_trim.proofs.Places.{cells_set, cells_kept}
use Rattle.lk_trim.proofs.numbering.set_place.Goals as goal

pub returns-then-index-eq0 : goal.returns-then-index-eq0
returns-then-index-eq0 c noted e h =
    cells_set c.args.cells.now.items noted c.args.n h c.args.place c.requires
    (sym (get_or_read c.args.cells.now.items c.args.n c.index.result.now c.requires c.index.ensures 0) ∙ c.if-index-eq0.true) e

pub returns-else-index-eq0 : goal.returns-else-index-eq0
returns-else-index-eq0 c noted e h =
    cells_kept c.args.cells.now.items noted c.args.n h
    (λ z. c.if-index-eq0.false (get_or_read c.args.cells.now.items c.args.n c.index.result.now c.requires c.index.ensures 0 ∙ z))
