-- The lines of names.
use Rattle.std.specs.Prelude.{ℕ, Bool, List, [], ◌∷◌, ◌++◌, length, map, reverse, decimal, codes}
use Rattle.std.specs.Prelude.{if◌then◌else◌}
use Rattle.lk_tree.specs.Tree.{Name, name_discrete, Part, text, number}
use Rattle.lk_trim.specs.Written.{Written, File, place, stands, number_at, fields}

abbrev pub has_name : Written → Name → Bool
has_name w x = stands (place name_discrete w.names x)

abbrev pub name_number : Written → Name → ℕ
name_number w x = number_at (place name_discrete w.names x)

abbrev pub name_numbers : Written → List Name → List ℕ
name_numbers w xs = map (name_number w) xs

-- Below a name is given by its components, the last one first.

-- what the line of a name says behind its number: the name without its last component, and that;
-- the anonymous name has none
abbrev pub name_fields : Written → List Part → List ℕ
name_fields w [] = []
name_fields w (text bytes ∷ ps) =
    codes " #NS" ++ (fields (name_number w (reverse ps) ∷ []) ++ 32 ∷ bytes)
name_fields w (number k ∷ ps) = codes " #NI" ++ fields (name_number w (reverse ps) ∷ k ∷ [])

unfoldable pub add_name : List Part → File → File
add_name ps f = record {
  text = f.text ++ (decimal (length f.written.names) ++ (name_fields f.written ps ++ 10 ∷ []));
  written = record f.written { names = f.written.names ++ reverse ps ∷ [] };
}

-- f where the name has its line there; else the lines of the names before it, and its line
abbrev pub write_back : List Part → File → File
write_back [] f = f
write_back (p ∷ ps) f =
    if has_name f.written (reverse (p ∷ ps)) then f else add_name (p ∷ ps) (write_back ps f)

abbrev pub write_name : Name → File → File
write_name x f = write_back (reverse x) f

abbrev pub write_names : List Name → File → File
write_names [] f = f
write_names (x ∷ xs) f = write_names xs (write_name x f)
