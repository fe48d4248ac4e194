-- The components of a name in memory, and the name that a unit goes by.
use Rattle.std.specs.Prelude.{ℕ, ◌<◌, length, List, [], ◌∷◌, Some, None}
use Rattle.std.specs.declared.option.Option.{Option}
use Rattle.lk_tree.specs.Tree.{Part, text, number}
use Rattle.lk_store.specs.Contents.{Contents, text_at}
use Rattle.lk_env.specs.declared.unit.BlockType.{BlockType}
use Rattle.lk_env.specs.declared.unit.Recursor.{Recursor}
use Rattle.lk_env.specs.declared.unit.Unit.{Unit as StoredUnit}
use Rattle.lk_env.specs.declared.unit.Unit.TheVariants as unit
use Rattle.lk_env.specs.Units.{unit_at}
use Rattle.lk_text.specs.declared.names.Component.{Component}
use Rattle.lk_text.specs.declared.names.Component.TheVariants.{Text, Number}
use Rattle.lk_verdict.specs.Told.{Verdict}
use Rattle.lk_text.specs.Text.{name_word, kind_word, verdict_text}

abbrev pub part_at : Contents → Component → Part
part_at c (Text s) = text (text_at c s)
part_at c (Number n) = number n

abbrev pub IsPartIn : Contents → Component → Type 0
IsPartIn c (Text s) = s < length c.texts
IsPartIn c (Number n) = Unit {0}

-- the number of the name of the first member
abbrev pub first_of_block : List BlockType → List Recursor → Option ℕ
first_of_block (t ∷ ts) rs = Some t.name
first_of_block [] (r ∷ rs) = Some r.name
first_of_block [] [] = None

abbrev pub first_number : StoredUnit → Option ℕ
first_number (unit.Declaration d) = Some d.name
first_number (unit.Block b) = first_of_block b.types.items b.recursors.value.items

-- the text of the name that the unit goes by
abbrev pub unit_text : Contents → StoredUnit → List ℕ
unit_text c u = name_word (unit_at c u)

-- the lines of the verdict of unit n
abbrev pub unit_lines : Contents → ℕ → StoredUnit → Verdict → List ℕ
unit_lines c n u v = verdict_text (kind_word (unit_at c u)) n (unit_text c u) v
