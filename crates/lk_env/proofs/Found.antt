-- What is so of an entry that is there.
use Rattle.std.proofs.Common.{◌≡◌, Option, Some}
use Rattle.std.specs.Prelude.{IfSome}

pub of_some : {A : Type 0} (P : A → Type 0) (o : Option A) (x : A) → IfSome o P → o ≡ Some x → P x
of_some P o x h e = rw e at h
