-- What an own node stands for, and the parts of it.
use Rattle.std.specs.Prelude.{ℕ, List, []}
use Rattle.lk_store.specs.Contents.{Contents, text_at, name_of, level_of, list_of, tree_of}
use Rattle.lk_store.specs.Contents.{IsName, IsText, IsLevel, IsList, IsTree}
use Rattle.lk_spell.specs.declared.part.Part.{Part}
use Rattle.lk_spell.specs.declared.open.Opened.{Opened}
use Rattle.lk_spell.specs.declared.open.Opened.TheVariants as opened
use Rattle.lk_spell.specs.declared.spelled.OwnNode.{OwnNode}
use Rattle.lk_spell.specs.declared.spelled.OwnNode.TheVariants.{Name, Text, Level, List as Levels, Term}
use Rattle.lk_spell.specs.Opened.{name_parts, level_parts, list_parts, term_parts}

-- from the last to the first
abbrev pub own_parts : OwnNode → List Part
own_parts (Name x) = name_parts x
own_parts (Text s) = []
own_parts (Level x) = level_parts x
own_parts (Levels x) = list_parts x
own_parts (Term x) = term_parts x

-- the number k of its kind stands in d for what the node stands for over c
abbrev pub IsNumberOf : Contents → Contents → OwnNode → ℕ → Type 0
IsNumberOf c d (Name x) k = IsName d k (name_of c x)
IsNumberOf c d (Text s) k = IsText d k s
IsNumberOf c d (Level x) k = IsLevel d k (level_of c x)
IsNumberOf c d (Levels x) k = IsList d k (list_of c x)
IsNumberOf c d (Term x) k = IsTree d k (tree_of c x)

-- the node of an opened part
abbrev pub own_node : Contents → Opened → OwnNode
own_node c (opened.Name n x) = Name x
own_node c (opened.Text s) = Text (text_at c s)
own_node c (opened.Level l x) = Level x
own_node c (opened.List ls x) = Levels x
own_node c (opened.Term e x) = Term x
