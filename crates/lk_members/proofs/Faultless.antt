-- Lines stay without faults when a line without a fault among them comes behind them.
use Rattle.std.proofs.Common.{◌≡◌, nat_eq, List, [], ◌∷◌, ◌++◌, None, sym, subst, append_assoc}
use Rattle.std.proofs.lemmas.List.{append-nil}
use Rattle.lk_members.specs.Faults.{fault_of}
use Rattle.lk_members.specs.Stored.{NumberedLine}
use Rattle.lk_members.specs.Finishing.{AreFaultless, IsFaultless}

still_faultless : (before lines : List NumberedLine) (l : NumberedLine) → AreFaultless before lines → fault_of nat_eq (before ++ lines) l.said ≡ None → AreFaultless before (lines ++ l ∷ [])
still_faultless before [] l fine none = (subst (λ ls. fault_of nat_eq ls l.said ≡ None) (append-nil before) none, tt)
still_faultless before (k ∷ lines) l fine none =
    (fine.0, still_faultless (before ++ k ∷ []) lines l fine.1 (subst (λ ls. fault_of nat_eq ls l.said ≡ None) (sym (append_assoc before (k ∷ []) lines)) none))

pub faultless_more : (lines : List NumberedLine) (l : NumberedLine) → IsFaultless lines → fault_of nat_eq lines l.said ≡ None → IsFaultless (lines ++ l ∷ [])
faultless_more lines l fine none = still_faultless [] lines l fine none
