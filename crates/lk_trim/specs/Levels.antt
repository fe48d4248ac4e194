-- The lines of levels.
use Rattle.std.specs.Prelude.{ℕ, Bool, List, [], ◌∷◌, ◌++◌, length, decimal, codes, if◌then◌else◌}
use Rattle.lk_tree.specs.Tree.{Level, level_discrete, zero_level, succ_level, max_level}
use Rattle.lk_tree.specs.Tree.{imax_level, param}
use Rattle.lk_trim.specs.Written.{Written, File, place, stands, number_at, fields}
use Rattle.lk_trim.specs.Names.{name_number, write_name}

abbrev pub has_level : Written → Level → Bool
has_level w l = stands (place level_discrete w.levels l)

abbrev pub level_number : Written → Level → ℕ
level_number w l = number_at (place level_discrete w.levels l)

-- what the line of a level says behind its number; level 0 has none
abbrev pub level_fields : Written → Level → List ℕ
level_fields w zero_level = []
level_fields w (succ_level l) = codes " #US" ++ fields (level_number w l ∷ [])
level_fields w (max_level l m) = codes " #UM" ++ fields (level_number w l ∷ level_number w m ∷ [])
level_fields w (imax_level l m) = codes " #UIM" ++ fields (level_number w l ∷ level_number w m ∷ [])
level_fields w (param n) = codes " #UP" ++ fields (name_number w n ∷ [])

unfoldable pub add_level : Level → File → File
add_level l f = record {
  text = f.text ++ (decimal (length f.written.levels) ++ (level_fields f.written l ++ 10 ∷ []));
  written = record f.written { levels = f.written.levels ++ l ∷ [] };
}

-- f where the level has its line there; else g, in which its parts have theirs, and its line
abbrev pub level_once : Level → File → File → File
level_once l f g = if has_level f.written l then f else add_level l g

abbrev pub write_level : Level → File → File
write_level zero_level f = f
write_level (succ_level l) f = level_once (succ_level l) f (write_level l f)
write_level (max_level l m) f = level_once (max_level l m) f (write_level m (write_level l f))
write_level (imax_level l m) f = level_once (imax_level l m) f (write_level m (write_level l f))
write_level (param n) f = level_once (param n) f (write_name n f)

abbrev pub write_levels : List Level → File → File
write_levels [] f = f
write_levels (l ∷ ls) f = write_levels ls (write_level l f)
