use Rattle.std.proofs.Common.{Ok}
use Rattle.std.specs.Prelude.{Result, Err, OnOk}
use Rattle.lk_derive_types.proofs.fields.note_sort.Goals as goal

mapped : {A E : Type 0} (r : Result A E) (P Q : Type 0) → (P → Q) → OnOk r P → OnOk r Q
mapped (Ok v) P Q f h = f h
mapped (Err e) P Q f h = tt

pub returns-clause-noted : goal.returns-clause-noted
returns-clause-noted g c = mapped c.note_form.result _ _
    (λ h. record { sorted = c.in_ok-sorted.sorted; first = c.note_type.new.self; read = c.in_ok-sorted.ensures.sorted; typed = c.in_ok-note_type.ensures; form = h }) c.note_form.ensures
