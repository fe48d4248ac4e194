-- The lines of a file by what they state: names, levels and trees.
use Rattle.std.specs.Prelude.{ℕ, List, map}
use Rattle.lk_tree.specs.Tree.{Name, Tree}
use Rattle.lk_tree.specs.Mentions.{same_name}
use Rattle.lk_rulebook.specs.Place.{Ctor, BlockType, BlockRecursor}
use Rattle.lk_rulebook.specs.Units.{Decl, LibraryUnit, of_decl, of_block, Library}
use Rattle.lk_store.specs.Contents.{Contents, name_at, tree_at}
use Rattle.lk_env.specs.Units.{declaration_at, constructor_at, recursor_at}
use Rattle.lk_members.specs.declared.line.TypeHead.{TypeHead}
use Rattle.lk_members.specs.declared.line.StoredMember.{StoredMember}
use Rattle.lk_members.specs.declared.line.StoredMember.TheVariants as stored
use Rattle.lk_members.specs.declared.line.StoredLine.{StoredLine}
use Rattle.lk_members.specs.Lines.{StatedMember, alone, a_type, a_ctor, a_recursor, MemberLine}
use Rattle.lk_members.specs.Units.{Gathered, one, block, units_of}

-- a type of a block as its line states it, without its constructors
pub record Head : Type 0 where
  pub name : Name
  pub levels : List Name
  pub type : Tree
  pub parameters : ℕ
  pub indices : ℕ

abbrev pub PlainMember : Type 0
PlainMember = StatedMember Name Decl Head Ctor BlockRecursor

abbrev pub PlainLine : Type 0
PlainLine = MemberLine Name Decl Head Ctor BlockRecursor

-- a type with its constructors
abbrev pub with_its_ctors : Head × List Ctor → BlockType
with_its_ctors t =
    record {
      name = t.0.name;
      levels = t.0.levels;
      type = t.0.type;
      parameters = t.0.parameters;
      indices = t.0.indices;
      ctors = t.1;
    }

abbrev pub unit_of : Gathered Decl Head Ctor BlockRecursor → LibraryUnit
unit_of (one d) = of_decl d
unit_of (block ts rs) = of_block (record { types = map with_its_ctors ts }) rs

-- the units that lines state, none of which is open
abbrev pub library_stated : List PlainLine → Library
library_stated lines = map unit_of (units_of same_name lines)

-- what a line by the numbers of a store stands for
abbrev pub head_at : Contents → TypeHead → Head
head_at c t =
    record {
      name = name_at c t.name;
      levels = map (name_at c) t.levels.items;
      type = tree_at c t.ty;
      parameters = t.parameters;
      indices = t.indices;
    }

abbrev pub said_at : Contents → StoredMember → PlainMember
said_at c (stored.Alone d) = alone (declaration_at c d)
said_at c (stored.Type head types) =
    a_type (name_at c head.value.name) (map (name_at c) types.items)
    (map (name_at c) head.value.constructors.items) (head_at c head.value)
said_at c (stored.Constructor k) =
    a_ctor (name_at c k.value.parent) (name_at c k.value.name) (constructor_at c k.value)
said_at c (stored.Recursor types r) =
    a_recursor (map (name_at c) types.items) (name_at c r.value.name) (recursor_at c r.value)

abbrev pub line_at : Contents → StoredLine → PlainLine
line_at c l = record { number = l.number; said = said_at c l.said }

abbrev pub lines_at : Contents → List StoredLine → List PlainLine
lines_at c ls = map (line_at c) ls
