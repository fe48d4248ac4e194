-- The units of lines without faults, none of which is open, in the order of their places: a
-- declaration alone stands at its line, and a block at its last line of a type or a constructor.
use Rattle.std.specs.Prelude.{Bool, true, false, not, List, [], ◌∷◌, ◌++◌, Option, Some, None}
use Rattle.std.specs.Prelude.{if◌then◌else◌}
use Rattle.std.specs.List.{list_any, flat_map}
use Rattle.lk_members.specs.Lines.{StatedMember, alone, a_type, a_ctor, MemberLine, same_list}
use Rattle.lk_members.specs.Lines.{block_of, type_of, ctor_of, recursors_of}

-- a declaration, or the types of a block, each with its constructors, and its recursors
pub data Gathered (D T C R : Type 0) : Type 0 where
  one : D → Gathered D T C R
  block : List (T × List C) → List R → Gathered D T C R

abbrev pub if_any : {A : Type 0} → Option A → List A
if_any None = []
if_any (Some a) = a ∷ []

module _ {X : Type 0} (same : X → X → Bool) where
  abbrev pub is_this : List X → Option (List X) → Bool
  is_this ts None = false
  is_this ts (Some us) = same_list same us ts

module _ {X D T C R : Type 0} (same : X → X → Bool) where
  -- the constructors of the type t, in the order of its list
  abbrev pub ctors_listed : List (MemberLine X D T C R) → X → List X → List C
  ctors_listed lines t cs = flat_map (λ c. if_any (ctor_of same lines t c)) cs

  abbrev pub with_ctors : List (MemberLine X D T C R) → X → Option (T × List X) → List (T × List C)
  with_ctors lines x None = []
  with_ctors lines x (Some t) = (t.0, ctors_listed lines x t.1) ∷ []

  abbrev pub block_with : List (MemberLine X D T C R) → List X → Gathered D T C R
  block_with lines ts =
      block (flat_map (λ x. with_ctors lines x (type_of same lines x)) ts)
      (recursors_of same lines ts)

  -- the types of the block that a line of a type or a constructor is of
  abbrev pub block_at : List (MemberLine X D T C R) → StatedMember X D T C R → Option (List X)
  block_at lines (a_type n ts cs t) = Some ts
  block_at lines (a_ctor p n c) = block_of same lines p
  block_at lines _ = None

  -- no line of a type or a constructor of the block comes later
  abbrev pub is_last : List (MemberLine X D T C R) → List (MemberLine X D T C R) → List X → Bool
  is_last lines later ts =
      not (list_any (λ (l : MemberLine X D T C R). is_this same ts (block_at lines l.said)) later)

  abbrev pub ended : List (MemberLine X D T C R) → List (MemberLine X D T C R) → Option (List X)
      → List (Gathered D T C R)
  ended lines later None = []
  ended lines later (Some ts) = if is_last lines later ts then block_with lines ts ∷ [] else []

  -- what stands at a line, with these behind it
  abbrev pub at_line : List (MemberLine X D T C R) → List (MemberLine X D T C R)
      → StatedMember X D T C R → List (Gathered D T C R)
  at_line lines later (alone d) = one d ∷ []
  at_line lines later s = ended lines later (block_at lines s)

  abbrev pub units_from : List (MemberLine X D T C R) → List (MemberLine X D T C R)
      → List (Gathered D T C R)
  units_from lines [] = []
  units_from lines (l ∷ later) = at_line lines later l.said ++ units_from lines later

  abbrev pub units_of : List (MemberLine X D T C R) → List (Gathered D T C R)
  units_of lines = units_from lines lines

-- it is a declaration alone
abbrev pub is_alone : {D T C R : Type 0} → Gathered D T C R → Bool
is_alone (one d) = true
is_alone (block ts rs) = false
