-- Lines and units by the numbers of a store.
use Rattle.std.specs.Prelude.{◌<◌, ℕ, List, map, length, All}
use Rattle.lk_rulebook.specs.Place.{BlockType as PlainType}
use Rattle.lk_rulebook.specs.Units.{LibraryUnit, of_decl, of_block}
use Rattle.lk_store.specs.Contents.{Contents, name_at, tree_at}
use Rattle.lk_env.specs.declared.unit.Declaration.{Declaration}
use Rattle.lk_env.specs.declared.unit.Constructor.{Constructor}
use Rattle.lk_env.specs.declared.unit.Recursor.{Recursor}
use Rattle.lk_env.specs.Units.{declared_levels, declaration_at, constructor_at, recursor_at}
use Rattle.lk_env.specs.Units.{IsStatedIn, IsBodyIn, IsConstructorIn, IsRecursorIn}
use Rattle.lk_members.specs.declared.line.TypeHead.{TypeHead}
use Rattle.lk_members.specs.declared.line.StoredMember.{StoredMember}
use Rattle.lk_members.specs.declared.line.StoredMember.TheVariants as stored
use Rattle.lk_members.specs.declared.line.StoredLine.{StoredLine}
use Rattle.lk_members.specs.Lines.{StatedMember, alone, a_type, a_ctor, a_recursor, MemberLine}
use Rattle.lk_members.specs.Units.{Gathered, one, block}

abbrev pub NumberedMember : Type 0
NumberedMember = StatedMember ℕ Declaration TypeHead Constructor Recursor

abbrev pub NumberedLine : Type 0
NumberedLine = MemberLine ℕ Declaration TypeHead Constructor Recursor

abbrev pub NumberedUnit : Type 0
NumberedUnit = Gathered Declaration TypeHead Constructor Recursor

abbrev pub said_of : StoredMember → NumberedMember
said_of (stored.Alone d) = alone d
said_of (stored.Type head types) =
    a_type head.value.name types.items head.value.constructors.items head.value
said_of (stored.Constructor k) = a_ctor k.value.parent k.value.name k.value
said_of (stored.Recursor types r) = a_recursor types.items r.value.name r.value

abbrev pub line_of : StoredLine → NumberedLine
line_of l = record { number = l.number; said = said_of l.said }

abbrev pub lines_of : List StoredLine → List NumberedLine
lines_of ls = map line_of ls

-- what a gathered unit stands for
abbrev pub type_stated : Contents → TypeHead × List Constructor → PlainType
type_stated c t = record {
  name = name_at c t.0.name;
  levels = map (name_at c) t.0.levels.items;
  type = tree_at c t.0.ty;
  parameters = t.0.parameters;
  indices = t.0.indices;
  ctors = map (constructor_at c) t.1;
}

abbrev pub unit_stated : Contents → NumberedUnit → LibraryUnit
unit_stated c (one d) = of_decl (declaration_at c d)
unit_stated c (block ts rs) =
    of_block (record { types = map (type_stated c) ts }) (map (recursor_at c) rs)

-- the names and trees of a line are numbers of the store
abbrev pub AreNames : Contents → List ℕ → Type 0
AreNames c ns = All (λ n. n < length c.names) ns

abbrev pub IsStoredMemberIn : Contents → StoredMember → Type 0
IsStoredMemberIn c (stored.Alone d) =
    IsStatedIn c d.name (declared_levels d) d.ty × IsBodyIn c d.body
IsStoredMemberIn c (stored.Type head types) =
    IsStatedIn c head.value.name head.value.levels.items head.value.ty
    × (AreNames c types.items × AreNames c head.value.constructors.items)
IsStoredMemberIn c (stored.Constructor k) = IsConstructorIn c k.value
IsStoredMemberIn c (stored.Recursor types r) = AreNames c types.items × IsRecursorIn c r.value

abbrev pub AreLinesIn : Contents → List StoredLine → Type 0
AreLinesIn c ls = All (λ (l : StoredLine). IsStoredMemberIn c l.said) ls
