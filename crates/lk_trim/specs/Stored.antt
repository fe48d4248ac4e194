-- What is written, by the numbers of a store.
use Rattle.std.specs.Prelude.{ℕ, ◌≡◌, ◌<◌, Bool, true, false, List, [], ◌∷◌, ◌++◌, length, map}
use Rattle.std.specs.Prelude.{reverse, All}
use Rattle.lk_tree.specs.Tree.{Name, Part, text, number, Level, zero_level, wide}
use Rattle.lk_store.specs.Values.{AreApart}
use Rattle.lk_store.specs.Contents.{Contents, name_at, text_at, level_at, tree_at}
use Rattle.lk_store.specs.declared.node.NameNode.{NameNode}
use Rattle.lk_store.specs.declared.node.NameNode.TheVariants.{Anonymous, Text, Number}
use Rattle.lk_trim.specs.declared.numbers.Numbers.{Numbers}
use Rattle.lk_trim.specs.declared.numbers.Writer.{Writer}
use Rattle.lk_trim.specs.Written.{Written, File}
use Rattle.lk_trim.specs.Names.{name_fields}

abbrev pub written_at : Contents → Numbers → Written
written_at c n = record {
  names = [] ∷ map (name_at c) n.names;
  levels = zero_level ∷ map (level_at c) n.levels;
  trees = map (tree_at c) n.trees;
  rules = n.rules;
}

abbrev pub file_at : Contents → Writer → File
file_at c w = record { text = w.out.items; written = written_at c w.numbers }

-- no two levels of the store are equal, and no two trees
pub record IsInterned (c : Contents) : Type 0 where
  pub levels : AreApart zero_level c.levels
  pub trees : AreApart wide c.trees

-- what was noted are numbers of a store in which nothing stands twice
pub record AreNumbersIn (c : Contents) (n : Numbers) : Type 0 where
  pub interned : IsInterned c
  pub names_apart : AreApart [] c.names
  pub names_in : All (λ m. m < length c.names) n.names
  pub levels_in : All (λ m. m < length c.levels) n.levels
  pub trees_in : All (λ m. m < length c.trees) n.trees

-- f is done to what is written
pub record Writes (c : Contents) (f : File → File) (old new : Writer) : Type 0 where
  pub numbers : AreNumbersIn c new.numbers
  pub file : file_at c new ≡ f (file_at c old)

abbrev pub is_anonymous : Name → Bool
is_anonymous [] = true
is_anonymous (p ∷ ps) = false

abbrev pub is_zero : Level → Bool
is_zero zero_level = true
is_zero _ = false

-- the name is that of the parent with one more component
pub record IsParent (c : Contents) (n parent : ℕ) : Type 0 where
  pub part : Part
  pub is : name_at c parent ++ part ∷ [] ≡ name_at c n

-- what the line of a name says, by its node
abbrev pub node_fields : Contents → Written → NameNode → List ℕ
node_fields c w Anonymous = []
node_fields c w (Text n s) = name_fields w (text (text_at c s) ∷ reverse (name_at c n))
node_fields c w (Number n k) = name_fields w (number k ∷ reverse (name_at c n))
