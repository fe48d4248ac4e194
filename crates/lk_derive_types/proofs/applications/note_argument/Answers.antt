use Rattle.std.proofs.Common.{Ok}
use Rattle.std.specs.Prelude.{Result, Err, OnOk}
use Rattle.lk_derive_types.proofs.applications.note_argument.Goals as goal

mapped : {A E : Type 0} (r : Result A E) (P Q : Type 0) → (P → Q) → OnOk r P → OnOk r Q
mapped (Ok v) P Q f h = f h
mapped (Err e) P Q f h = tt

pub returns : goal.returns
returns c = mapped c.note_same.result _ _
    (λ h. record { first = c.note_form.new.self; second = c.note_type.new.self; form = c.in_ok-note_form.ensures; typed = c.in_ok-note_type.ensures; equal = h }) c.note_same.ensures
