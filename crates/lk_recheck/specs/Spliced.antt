-- The list of units that a part of a file leads to, behind the list before it.
use Rattle.std.specs.Prelude.{Bool, false, [], ◌∷◌, Some, None, if◌then◌else◌}
use Rattle.std.specs.declared.option.Option.{Option}
use Rattle.lk_tree.specs.Tree.{Name}
use Rattle.lk_tree.specs.Mentions.{same_name}
use Rattle.lk_rulebook.specs.Units.{LibraryUnit, Library, Members, members_of}

abbrev pub first_member : Members → Option Name
first_member [] = None
first_member (m ∷ ms) = Some m.0

-- the name of a unit: that of its first member, for a block the first type of its list
abbrev pub unit_name : LibraryUnit → Option Name
unit_name u = first_member (members_of u)

abbrev pub are_same : Option Name → Option Name → Bool
are_same None y = false
are_same (Some x) None = false
are_same (Some x) (Some y) = same_name x y

-- v in the place of the first unit of its name, or else at the end
abbrev pub put_unit : Library → LibraryUnit → Library
put_unit [] v = v ∷ []
put_unit (u ∷ us) v = if are_same (unit_name u) (unit_name v) then v ∷ us else u ∷ put_unit us v

-- the units of a part, put one after another
abbrev pub spliced : Library → Library → Library
spliced us [] = us
spliced us (v ∷ vs) = spliced (put_unit us v) vs

-- The list behind a part: the first part is the first list.
abbrev pub next_list : Bool → Library → Library → Library
next_list begun us part = if begun then spliced us part else part
