-- The lines of trees.
use Rattle.std.specs.Prelude.{ℕ, ◌+◌, ◌/◌, ◌%◌, nat_lt, Bool, List, [], ◌∷◌, ◌++◌, length, map}
use Rattle.std.specs.Prelude.{decimal, codes, if◌then◌else◌}
use Rattle.lk_tree.specs.Tree.{Tree, tree_discrete, var, sort, const, app, lam, pi, let_in, proj}
use Rattle.lk_tree.specs.Tree.{lit, wide, str, local}
use Rattle.lk_trim.specs.Written.{Written, File, place, stands, number_at, fields}
use Rattle.lk_trim.specs.Names.{name_number, write_name}
use Rattle.lk_trim.specs.Levels.{level_number, write_level, write_levels}

abbrev pub has_tree : Written → Tree → Bool
has_tree w e = stands (place tree_discrete w.trees e)

abbrev pub tree_number : Written → Tree → ℕ
tree_number w e = number_at (place tree_discrete w.trees e)

abbrev pub hex_digit : ℕ → ℕ
hex_digit d = if nat_lt d 10 then 48 + d else 87 + d

-- a field of two digits for each byte
abbrev pub hex_fields : List ℕ → List ℕ
hex_fields [] = []
hex_fields (b ∷ bs) = 32 ∷ hex_digit (b / 16) ∷ hex_digit (b % 16) ∷ hex_fields bs

-- of a literal above 2 ^ 128 - 1 only that is known, and 2 ^ 128 is written
abbrev pub wide_fields : List ℕ
wide_fields = codes " #ELN 340282366920938463463374607431768211456"

-- what the line of a tree says behind its number: binders have no name there, and a Local, which
-- no export states, has a tag of its own
abbrev pub tree_fields : Written → Tree → List ℕ
tree_fields w (var i) = codes " #EV" ++ fields (i ∷ [])
tree_fields w (sort l) = codes " #ES" ++ fields (level_number w l ∷ [])
tree_fields w (const n ls) = codes " #EC" ++ fields (name_number w n ∷ map (level_number w) ls)
tree_fields w (app f a) = codes " #EA" ++ fields (tree_number w f ∷ tree_number w a ∷ [])
tree_fields w (lam A b) = codes " #EL #BD 0" ++ fields (tree_number w A ∷ tree_number w b ∷ [])
tree_fields w (pi A B) = codes " #EP #BD 0" ++ fields (tree_number w A ∷ tree_number w B ∷ [])
tree_fields w (let_in A v b) =
    codes " #EZ 0" ++ fields (tree_number w A ∷ tree_number w v ∷ tree_number w b ∷ [])
tree_fields w (proj S i s) = codes " #EJ" ++ fields (name_number w S ∷ i ∷ tree_number w s ∷ [])
tree_fields w (lit n) = codes " #ELN" ++ fields (n ∷ [])
tree_fields w wide = wide_fields
tree_fields w (str bytes) = codes " #ELS" ++ hex_fields bytes
tree_fields w (local k T) = codes " #EF" ++ fields (k ∷ tree_number w T ∷ [])

unfoldable pub add_tree : Tree → File → File
add_tree e f = record {
  text = f.text ++ (decimal (length f.written.trees) ++ (tree_fields f.written e ++ 10 ∷ []));
  written = record f.written { trees = f.written.trees ++ e ∷ [] };
}

-- f where the tree has its line there; else g, in which its parts have theirs, and its line
abbrev pub tree_once : Tree → File → File → File
tree_once e f g = if has_tree f.written e then f else add_tree e g

abbrev pub write_tree : Tree → File → File
write_tree (var i) f = tree_once (var i) f f
write_tree (sort l) f = tree_once (sort l) f (write_level l f)
write_tree (const n ls) f = tree_once (const n ls) f (write_levels ls (write_name n f))
write_tree (app g a) f = tree_once (app g a) f (write_tree a (write_tree g f))
write_tree (lam A b) f = tree_once (lam A b) f (write_tree b (write_tree A f))
write_tree (pi A B) f = tree_once (pi A B) f (write_tree B (write_tree A f))
write_tree (let_in A v b) f =
    tree_once (let_in A v b) f (write_tree b (write_tree v (write_tree A f)))
write_tree (proj S i s) f = tree_once (proj S i s) f (write_tree s (write_name S f))
write_tree (lit n) f = tree_once (lit n) f f
write_tree wide f = tree_once wide f f
write_tree (str bytes) f = tree_once (str bytes) f f
write_tree (local k T) f = tree_once (local k T) f (write_tree T f)
