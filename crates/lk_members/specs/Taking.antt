-- What taking a line answers.
use Rattle.std.specs.Prelude.{◌≡◌, ℕ, zero, suc, nat_eq, Bool, false, List, [], ◌∷◌, ◌++◌, Option}
use Rattle.std.specs.Prelude.{Some, None, Result, Ok, Err, slice_get}
use Rattle.lk_members.specs.declared.fault.MemberFault.{MemberFault}
use Rattle.lk_members.specs.declared.fault.MemberError.{MemberError}
use Rattle.lk_members.specs.declared.fault.MemberError.TheVariants.{NoMemory, Fault}
use Rattle.lk_members.specs.Lines.{a_type, same_list}
use Rattle.lk_members.specs.Stored.{NumberedMember, NumberedLine}

-- the line is taken where it has no fault, and a fault is told; memory may be missing in either
-- case
abbrev pub Takes : Result (Unit {0}) MemberError → Option MemberFault → Type 0
Takes (Ok u) fault = fault ≡ None
Takes (Err NoMemory) fault = Unit {0}
Takes (Err (Fault f)) fault = fault ≡ Some f

-- the line is a type's, with this list of the types of its block
abbrev pub states_list : NumberedMember → List ℕ → Bool
states_list (a_type n us cs t) ts = same_list nat_eq us ts
states_list _ ts = false

-- the line at a place is a type's, with this list
abbrev pub list_at : List NumberedLine → ℕ → List ℕ → Bool
list_at lines i ts = elim (slice_get lines i) [ Some l ↦ states_list l.said ts | None ↦ false ]

abbrev pub with_line : List NumberedLine → ℕ → NumberedMember → List NumberedLine
with_line lines n s = lines ++ record { number = n; said = s } ∷ []

-- the groups with one more place in one of them
abbrev pub with_place : List (List ℕ) → ℕ → ℕ → List (List ℕ)
with_place [] k i = []
with_place (g ∷ gs) zero i = (g ++ i ∷ []) ∷ gs
with_place (g ∷ gs) (suc k) i = g ∷ with_place gs k i
