-- The unit that a printed name is of.
use Rattle.std.specs.Prelude.{ℕ, suc, Bool, List, [], ◌∷◌, ◌++◌, map, Option, Some, None, codes}
use Rattle.std.specs.Prelude.{if◌then◌else◌}
use Rattle.std.specs.List.{list_any}
use Rattle.std.specs.Str.{bytes_eq}
use Rattle.lk_tree.specs.Tree.{Name}
use Rattle.lk_rulebook.specs.Place.{Entry}
use Rattle.lk_rulebook.specs.Units.{LibraryUnit, Library, members_of}
use Rattle.lk_text.specs.Text.{name_text}

abbrev pub prints_as : List ℕ → Name → Bool
prints_as text x = bytes_eq (name_text x) text

-- a member of the unit has a name that prints as the text
abbrev pub has_printed : List ℕ → LibraryUnit → Bool
has_printed text u =
    list_any (prints_as text) (map (λ (m : Name × Entry). m.0) (members_of u))

-- the number of the first unit with such a member; the first of these has number n
abbrev pub first_printed : ℕ → Library → List ℕ → Option ℕ
first_printed n [] text = None
first_printed n (u ∷ us) text =
    if has_printed text u then Some n else first_printed (suc n) us text

-- the line that says that there is none
abbrev pub unknown_line : List ℕ → List ℕ
unknown_line text = codes "unknown " ++ (text ++ 10 ∷ [])
