use Rattle.std.proofs.Common.{Ok}
use Rattle.std.specs.Prelude.{Result, Err, IfOk}
use Rattle.lk_derive_types.proofs.row.type_row.Goals as goal

mapped : {A E : Type 0} (r : Result A E) (P Q : A → Type 0) → ((v : A) → P v → Q v) → IfOk r P → IfOk r Q
mapped (Ok v) P Q f h = f v h
mapped (Err e) P Q f h = tt

pub returns : goal.returns
returns g c = record {
  leaves = c.row_of.ensures.leaves;
  known = mapped c.row_of.result _ _ (λ r h. h.known) c.row_of.ensures.row;
  row = mapped c.row_of.result _ _ (λ r h. h.row) c.row_of.ensures.row;
}
