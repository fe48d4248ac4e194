-- The lines of units as an export states them, and what a course over canonical text has.
use Rattle.std.specs.Prelude.{ℕ, ◌≡◌, ◌+◌, false, List, [], ◌∷◌, ◌++◌, length, map, slice_get}
use Rattle.std.specs.Prelude.{Option, Some, None}
use Rattle.lk_tree.specs.Tree.{Name, zero_level}
use Rattle.lk_tree.specs.Mentions.{same_name}
use Rattle.lk_rulebook.specs.Place.{Ctor, BlockType, type_names, RecRule, BlockRecursor}
use Rattle.lk_rulebook.specs.Units.{LibraryUnit, of_decl, of_block, Library}
use Rattle.lk_env.specs.Budgets.{StatedBudget}
use Rattle.lk_members.specs.Lines.{alone, a_type, a_ctor, a_recursor}
use Rattle.lk_members.specs.Faults.{fault_of}
use Rattle.lk_members.specs.Plain.{Head, PlainMember, PlainLine}
use Rattle.lk_lines.specs.declared.tags.Dialect.TheVariants as dialects
use Rattle.lk_book.specs.Course.{Course, begin_course}
use Rattle.lk_book.specs.Passing.{Leads}
use Rattle.lk_trim.specs.Written.{File}
use Rattle.lk_trim.specs.Units.{ctor_names}
use Rattle.lk_trim.specs.Whole.{Kept}
use Rattle.lk_readback.specs.Within.{defined_count}

abbrev pub head_of : BlockType → Head
head_of t =
    record {
      name = t.name;
      levels = t.levels;
      type = t.type;
      parameters = t.parameters;
      indices = t.indices;
    }

abbrev pub type_member : List Name → BlockType → PlainMember
type_member family t = a_type t.name family (ctor_names t.ctors) (head_of t)

abbrev pub type_members : List Name → List BlockType → List PlainMember
type_members family [] = []
type_members family (t ∷ ts) = type_member family t ∷ type_members family ts

abbrev pub ctor_member : Ctor → PlainMember
ctor_member c = a_ctor c.parent c.name c

abbrev pub ctor_members : List Ctor → List PlainMember
ctor_members [] = []
ctor_members (c ∷ cs) = ctor_member c ∷ ctor_members cs

abbrev pub all_ctor_members : List BlockType → List PlainMember
all_ctor_members [] = []
all_ctor_members (t ∷ ts) = ctor_members t.ctors ++ all_ctor_members ts

abbrev pub rec_member : List Name → BlockRecursor → PlainMember
rec_member family r = a_recursor family r.name r

abbrev pub rec_members : List Name → List BlockRecursor → List PlainMember
rec_members family [] = []
rec_members family (r ∷ rs) = rec_member family r ∷ rec_members family rs

-- what the lines of a unit state, in their order
abbrev pub stated_of : LibraryUnit → List PlainMember
stated_of (of_decl d) = alone d ∷ []
stated_of (of_block b rs) =
    type_members (type_names b.types) b.types ++
    (all_ctor_members b.types ++ rec_members (type_names b.types) rs)

abbrev pub all_stated : Library → List PlainMember
all_stated [] = []
all_stated (u ∷ us) = stated_of u ++ all_stated us

abbrev pub said_by : List PlainLine → List PlainMember
said_by ls = map (λ (l : PlainLine). l.said) ls

-- no line has a fault among those before it
abbrev pub AreFaultless : List PlainMember → Type 0
AreFaultless ms =
    (before : List PlainMember) (m : PlainMember) (after : List PlainMember) (ls : List PlainLine)
    → ms ≡ before ++ m ∷ after → said_by ls ≡ before → fault_of same_name ls m ≡ None

abbrev pub kept_units : List Kept → Library
kept_units [] = []
kept_units (k ∷ ks) = k.unit ∷ kept_units ks

abbrev pub if_stated : Option StatedBudget → List StatedBudget
if_stated None = []
if_stated (Some b) = b ∷ []

abbrev pub kept_budgets : List Kept → List StatedBudget
kept_budgets [] = []
kept_budgets (k ∷ ks) = if_stated k.budget ++ kept_budgets ks

-- The course is where a reader is behind the text of the file: its numbers stand for what has its
-- line there, the rules for these.
pub record IsRead (f : File) (rules : List RecRule) (c : Course) : Type 0 where
  pub leads : Leads begin_course f.text c []
  pub dialect : c.dialect ≡ dialects.Export
  pub begun : c.first ≡ false
  pub before : c.before ≡ length f.text
  pub anonymous : slice_get f.written.names 0 ≡ Some []
  pub zero : slice_get f.written.levels 0 ≡ Some zero_level
  pub names : (n : ℕ) → c.state.names n ≡ slice_get f.written.names n
  pub levels : (n : ℕ) → c.state.levels n ≡ slice_get f.written.levels n
  pub trees : (n : ℕ) → c.state.trees n ≡ slice_get f.written.trees n
  pub rules_are : (n : ℕ) → c.state.rules n ≡ slice_get rules n
  pub rules_many : length rules ≡ f.written.rules
  pub count : c.state.count ≡ defined_count f.written + length c.state.lines
