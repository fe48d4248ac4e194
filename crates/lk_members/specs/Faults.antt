-- The faults of a line among those before it, and the first line that is open at the end.
use Rattle.std.specs.Prelude.{ℕ, Bool, false, not, ◌||◌, List, [], ◌∷◌, Option, Some, None, is_some}
use Rattle.std.specs.Prelude.{if◌then◌else◌}
use Rattle.std.specs.List.{list_any}
use Rattle.lk_members.specs.declared.fault.MemberFault.{MemberFault}
use Rattle.lk_members.specs.declared.fault.MemberFault.TheVariants.{BadCount, RepeatedMember}
use Rattle.lk_members.specs.Lines.{StatedMember, alone, a_type, a_ctor, a_recursor, MemberLine, has}
use Rattle.lk_members.specs.Lines.{same_list, is_distinct, block_of, type_of, ctor_of, has_recursor}

module _ {X : Type 0} (same : X → X → Bool) where
  -- another list
  abbrev pub is_other : Option (List X) → List X → Bool
  is_other None ts = false
  is_other (Some us) ts = not (same_list same us ts)

  -- the type lists the constructor
  abbrev pub lists_ctor : {T : Type 0} → Option (T × List X) → X → Bool
  lists_ctor None x = false
  lists_ctor (Some t) x = has same t.1 x

module _ {X D T C R : Type 0} (same : X → X → Bool) where
  -- a name of the list stands in the list of another block
  abbrev pub crosses : List (MemberLine X D T C R) → List X → Bool
  crosses before ts = list_any (λ x. is_other same (block_of same before x) ts) ts

  -- the lists of a type lack its own name, share one with another block's, or hold one twice
  abbrev pub bad_lists : List (MemberLine X D T C R) → X → List X → List X → Bool
  bad_lists before n ts cs =
      not (has same ts n) || (crosses before ts
      || (not (is_distinct same ts) || not (is_distinct same cs)))

  -- bad lists, else a second line of one member
  abbrev pub fault_of : List (MemberLine X D T C R) → StatedMember X D T C R → Option MemberFault
  fault_of before (alone d) = None
  fault_of before (a_type n ts cs t) =
      if bad_lists before n ts cs then Some BadCount else
      (if is_some (type_of same before n) then Some RepeatedMember else None)
  fault_of before (a_ctor p n c) =
      if is_some (ctor_of same before p n) then Some RepeatedMember else None
  fault_of before (a_recursor ts n r) =
      if has_recursor same before ts n then Some RepeatedMember else None

  -- a block has just these types
  abbrev pub is_block : List (MemberLine X D T C R) → List X → Bool
  is_block lines [] = false
  is_block lines (t ∷ ts) =
      elim (block_of same lines t) [ Some us ↦ same_list same us (t ∷ ts) | None ↦ false ]

  -- a type or a constructor that it lists has no line, its type does not list it, or its list is no
  -- block's
  abbrev pub is_open : List (MemberLine X D T C R) → StatedMember X D T C R → Bool
  is_open lines (alone d) = false
  is_open lines (a_type n ts cs t) =
      list_any (λ x. not (is_some (type_of same lines x))) ts
      || list_any (λ c. not (is_some (ctor_of same lines n c))) cs
  is_open lines (a_ctor p n c) = not (lists_ctor same (type_of same lines p) n)
  is_open lines (a_recursor ts n r) = not (is_block lines ts)

  -- the number of the first of these that is open
  abbrev pub first_open : List (MemberLine X D T C R) → List (MemberLine X D T C R) → Option ℕ
  first_open lines [] = None
  first_open lines (l ∷ ls) = if is_open lines l.said then Some l.number else first_open lines ls
