-- Parts of the terms of a store, and what their numbers stand for.
use Rattle.std.specs.Prelude.{ℕ, ◌<◌, length}
use Rattle.lk_store.specs.Contents.{Contents, name_at, text_at, level_at, list_at, tree_at}
use Rattle.lk_store.specs.Contents.{IsName, IsText, IsLevel, IsList, IsTree}
use Rattle.lk_spell.specs.declared.part.Part.{Part}
use Rattle.lk_spell.specs.declared.part.Part.TheVariants.{Name, Text, Level, List as Levels, Term}

abbrev pub number_of : Part → ℕ
number_of (Name n) = n
number_of (Text s) = s
number_of (Level l) = l
number_of (Levels ls) = ls
number_of (Term e) = e

-- its number is there
abbrev pub IsPartIn : Contents → Part → Type 0
IsPartIn c (Name n) = n < length c.names
IsPartIn c (Text s) = s < length c.texts
IsPartIn c (Level l) = l < length c.levels
IsPartIn c (Levels ls) = ls < length c.lists
IsPartIn c (Term e) = e < length c.trees

-- what the part stands for in c, the number m of its kind stands for in d
abbrev pub IsSame : Contents → Contents → Part → ℕ → Type 0
IsSame c d (Name n) m = (n < length c.names) × IsName d m (name_at c n)
IsSame c d (Text s) m = (s < length c.texts) × IsText d m (text_at c s)
IsSame c d (Level l) m = (l < length c.levels) × IsLevel d m (level_at c l)
IsSame c d (Levels ls) m = (ls < length c.lists) × IsList d m (list_at c ls)
IsSame c d (Term e) m = (e < length c.trees) × IsTree d m (tree_at c e)
