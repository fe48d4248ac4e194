-- Lines that declare something, in the order of a file: declarations alone, and the members of
-- blocks. X is what names are, and D, T, C and R what a line states of a declaration, a type, a
-- constructor and a recursor, so that the lines of a file and what the program has of them are
-- spoken of alike.
use Rattle.std.specs.Prelude.{ℕ, Bool, true, false, not, ◌&&◌, ◌||◌, List, [], ◌∷◌, ◌++◌, Option}
use Rattle.std.specs.Prelude.{Some, None, if◌then◌else◌}

pub data StatedMember (X D T C R : Type 0) : Type 0 where
  alone : D → StatedMember X D T C R
  -- its name, the types of its block, and its constructors
  a_type : X → List X → List X → T → StatedMember X D T C R
  -- the name of its type, and its own
  a_ctor : X → X → C → StatedMember X D T C R
  -- the types of its block, and its name
  a_recursor : List X → X → R → StatedMember X D T C R

pub record MemberLine (X D T C R : Type 0) : Type 0 where
  pub number : ℕ
  pub said : StatedMember X D T C R

-- the first, where it is there
abbrev pub or_next : {A : Type 0} → Option A → Option A → Option A
or_next (Some a) o = Some a
or_next None o = o

module _ {X : Type 0} (same : X → X → Bool) where
  abbrev pub has : List X → X → Bool
  has [] x = false
  has (y ∷ ys) x = same y x || has ys x

  abbrev pub same_list : List X → List X → Bool
  same_list [] [] = true
  same_list (x ∷ xs) (y ∷ ys) = same x y && same_list xs ys
  same_list _ _ = false

  -- no name stands there twice
  abbrev pub is_distinct : List X → Bool
  is_distinct [] = true
  is_distinct (x ∷ xs) = not (has xs x) && is_distinct xs

module _ {X D T C R : Type 0} (same : X → X → Bool) where
  -- the types of a block, where the line names x as one of them
  abbrev pub types_with : StatedMember X D T C R → X → Option (List X)
  types_with (a_type n ts cs t) x = if has same ts x then Some ts else None
  types_with _ x = None

  -- the types of the first block that names x as one of them
  abbrev pub block_of : List (MemberLine X D T C R) → X → Option (List X)
  block_of [] x = None
  block_of (l ∷ ls) x = or_next (types_with l.said x) (block_of ls x)

  abbrev pub type_here : StatedMember X D T C R → X → Option (T × List X)
  type_here (a_type n ts cs t) x = if same n x then Some (t, cs) else None
  type_here _ x = None

  -- what is stated of the type x, and its constructors
  abbrev pub type_of : List (MemberLine X D T C R) → X → Option (T × List X)
  type_of [] x = None
  type_of (l ∷ ls) x = or_next (type_here l.said x) (type_of ls x)

  abbrev pub ctor_here : StatedMember X D T C R → X → X → Option C
  ctor_here (a_ctor p n c) t x = if same p t && same n x then Some c else None
  ctor_here _ t x = None

  -- what is stated of the constructor x of the type t
  abbrev pub ctor_of : List (MemberLine X D T C R) → X → X → Option C
  ctor_of [] t x = None
  ctor_of (l ∷ ls) t x = or_next (ctor_here l.said t x) (ctor_of ls t x)

  abbrev pub recursor_here : StatedMember X D T C R → List X → List R
  recursor_here (a_recursor ts n r) us = if same_list same ts us then r ∷ [] else []
  recursor_here _ us = []

  -- what is stated of the recursors of the block with these types, in the order of their lines
  abbrev pub recursors_of : List (MemberLine X D T C R) → List X → List R
  recursors_of [] us = []
  recursors_of (l ∷ ls) us = recursor_here l.said us ++ recursors_of ls us

  abbrev pub is_recursor_here : StatedMember X D T C R → List X → X → Bool
  is_recursor_here (a_recursor ts n r) us x = same_list same ts us && same n x
  is_recursor_here _ us x = false

  -- whether a recursor x of the block with these types is stated
  abbrev pub has_recursor : List (MemberLine X D T C R) → List X → X → Bool
  has_recursor [] us x = false
  has_recursor (l ∷ ls) us x = is_recursor_here l.said us x || has_recursor ls us x
