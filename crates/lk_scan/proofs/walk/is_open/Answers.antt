use Rattle.std.proofs.Common.{◌∙◌, sym}
use Rattle.lk_store.specs.Store.{contents_of}
use Rattle.lk_scan.proofs.Passed.{part_without, met_before}
use Rattle.lk_scan.proofs.walk.is_open.Goals as goal

pub returns-then-has_params : goal.returns-then-has_params
returns-then-has_params c = λ ps over h.
    met_before (contents_of c.args.base.now) ps c.args.part c.args.met.now c.find.result over c.find.ensures.known c.find.ensures.present c.is_none.result c.is_none.ensures h

pub returns-else-has_params : goal.returns-else-has_params
returns-else-has_params c = λ ps over h. part_without (contents_of c.args.base.now) ps c.args.part (sym c.has_params.ensures ∙ h)
