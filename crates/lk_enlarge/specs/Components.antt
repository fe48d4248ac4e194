-- The components of a name, met from the last one to the first.
use Rattle.std.specs.Prelude.{◌<◌, length, List, [], ◌∷◌, ◌++◌}
use Rattle.lk_tree.specs.Tree.{Name, Part, text, number}
use Rattle.lk_store.specs.Contents.{Contents, text_at}
use Rattle.lk_enlarge.specs.declared.components.Component.{Component}
use Rattle.lk_enlarge.specs.declared.components.Component.TheVariants.{Text, Number}

abbrev pub part_at : Contents → Component → Part
part_at c (Text s) = text (text_at c s)
part_at c (Number n) = number n

abbrev pub IsPartIn : Contents → Component → Type 0
IsPartIn c (Text s) = s < length c.texts
IsPartIn c (Number n) = Unit {0}

-- as they stand in the name
abbrev pub behind : Contents → List Component → Name
behind c [] = []
behind c (k ∷ ks) = behind c ks ++ part_at c k ∷ []
