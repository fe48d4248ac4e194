use Rattle.lk_derive_types.proofs.ClosedRows.{pi_by}
use Rattle.lk_derive_types.proofs.pis.pi_step.Goals as goal

pub returns : goal.returns
returns c = λ w d tree h. c.typing_row.ensures w d tree
    (pi_by w d c.args.e c.args.domain c.args.sorted c.args.inside c.args.inner c.args.ty tree c.new-asked.result c.note_type.new.self c.note_form.new.self c.note_type-2.new.self c.note_form-2.new.self
    h c.new-asked.ensures c.in_ok-note_type.ensures c.in_ok-note_form.ensures c.in_ok-note_type-2.ensures c.in_ok-note_form-2.ensures)
