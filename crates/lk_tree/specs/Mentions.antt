-- Names compared, and the names that a tree mentions.
use Rattle.std.specs.Prelude.{Bool, true, false, ◌||◌, List, [], ◌∷◌}
use Rattle.lk_tree.specs.Tree.{Name, name_discrete, Tree, const, app, lam, pi, let_in, proj}

abbrev pub same_name : Name → Name → Bool
same_name c d = elim (name_discrete c d) [ yes e ↦ true | no f ↦ false ]

abbrev pub is_one_of : List Name → Name → Bool
is_one_of [] c = false
is_one_of (n ∷ ns) c = elim (name_discrete n c) [ yes e ↦ true | no f ↦ is_one_of ns c ]

-- whether the tree mentions one of the names; the types of Locals do not count
abbrev pub mentions : List Name → Tree → Bool
mentions ns (const c ls) = is_one_of ns c
mentions ns (app f a) = mentions ns f || mentions ns a
mentions ns (lam A b) = mentions ns A || mentions ns b
mentions ns (pi A B) = mentions ns A || mentions ns B
mentions ns (let_in A v b) = mentions ns A || (mentions ns v || mentions ns b)
mentions ns (proj S i s) = is_one_of ns S || mentions ns s
mentions ns _ = false
