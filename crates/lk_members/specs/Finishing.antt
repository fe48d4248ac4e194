-- What finishing asks and gives: lines without faults, the constructors that types list, and the
-- units or the first open line.
use Rattle.std.specs.Prelude.{◌≡◌, ℕ, nat_eq, Bool, true, false, not, ◌&&◌, List, [], ◌∷◌, ◌++◌}
use Rattle.std.specs.Prelude.{map, All, reverse, Option, Some, None, Result, Ok, Err, is_some}
use Rattle.std.specs.Prelude.{if◌then◌else◌}
use Rattle.std.specs.List.{flat_map, list_any}
use Rattle.std.specs.HashSet as hash_set
use Rattle.std.specs.HashSet.{HashSet}
use Rattle.lk_rulebook.specs.Units.{LibraryUnit}
use Rattle.lk_store.specs.Contents.{Contents}
use Rattle.lk_env.specs.declared.unit.Constructor.{Constructor}
use Rattle.lk_env.specs.declared.unit.Recursor.{Recursor}
use Rattle.lk_env.specs.declared.unit.BlockType.{BlockType}
use Rattle.lk_env.specs.declared.unit.Block.{Block}
use Rattle.lk_env.specs.declared.unit.Unit.{Unit as StoredUnit}
use Rattle.lk_env.specs.declared.unit.Unit.TheVariants as unit
use Rattle.lk_env.specs.Units.{constructor_at, recursor_at, type_at, unit_at, IsConstructorIn}
use Rattle.lk_env.specs.Units.{IsRecursorIn, IsTypeIn, IsUnitIn, IsStatedIn}
use Rattle.lk_members.specs.declared.line.StoredLine.{StoredLine}
use Rattle.lk_members.specs.declared.line.TypeHead.{TypeHead}
use Rattle.lk_members.specs.declared.line.StoredMember.{StoredMember}
use Rattle.lk_members.specs.declared.line.StoredMember.TheVariants as stored
use Rattle.lk_members.specs.declared.finish.FinishError.{FinishError}
use Rattle.lk_members.specs.declared.finish.FinishError.TheVariants.{NoMemory, Open}
use Rattle.lk_members.specs.declared.members.Key.{Key}
use Rattle.lk_members.specs.declared.ends.Ends.{Ends}
use Rattle.lk_members.specs.Lines.{has, type_of, ctor_of}
use Rattle.lk_members.specs.Faults.{fault_of, lists_ctor}
use Rattle.lk_members.specs.Units.{if_any, with_ctors, block_with, block_at, ended}
use Rattle.lk_members.specs.Stored.{NumberedLine, lines_of, NumberedUnit, type_stated, unit_stated}
use Rattle.lk_members.specs.Stored.{IsStoredMemberIn, AreLinesIn}
use Rattle.lk_members.specs.Indices.{key_eq}

-- each of these lines has no fault among those before it
abbrev pub AreFaultless : List NumberedLine → List NumberedLine → Type 0
AreFaultless before [] = Unit {0}
AreFaultless before (l ∷ ls) =
    (fault_of nat_eq before l.said ≡ None) × AreFaultless (before ++ l ∷ []) ls

abbrev pub IsFaultless : List NumberedLine → Type 0
IsFaultless lines = AreFaultless [] lines

abbrev pub lacks_type : List NumberedLine → ℕ → Bool
lacks_type lines x = not (is_some (type_of nat_eq lines x))

abbrev pub lacks_ctor : List NumberedLine → ℕ → ℕ → Bool
lacks_ctor lines t x = not (is_some (ctor_of nat_eq lines t x))

-- the constructor is one of a type's list
abbrev pub is_listed_by : ℕ → List ℕ → Key → Bool
is_listed_by t cs q = nat_eq t q.under && has nat_eq cs q.name

abbrev pub is_listed : List NumberedLine → Key → Bool
is_listed lines q = lists_ctor nat_eq (type_of nat_eq lines q.under) q.name

abbrev pub Listed : {S : Type 0} → List NumberedLine → HashSet Key S → Type 0
Listed lines s = (q : Key) → hash_set.contains key_eq s q ≡ is_listed lines q

-- Copies stand for what they were made from.
pub record IsConstructorCopy (k copy : Constructor) : Type 0 where
  pub same : (c : Contents) → constructor_at c copy ≡ constructor_at c k
  pub known : (c : Contents) → IsConstructorIn c k → IsConstructorIn c copy

pub record IsRecursorCopy (r copy : Recursor) : Type 0 where
  pub same : (c : Contents) → recursor_at c copy ≡ recursor_at c r
  pub known : (c : Contents) → IsRecursorIn c r → IsRecursorIn c copy

-- a type stands for what its line states, with these constructors
pub record IsTypeCopy (head : TypeHead) (constructors : List Constructor) (copy : BlockType)
    : Type 0 where
  pub same : (c : Contents) (ks : List Constructor)
      → map (constructor_at c) constructors ≡ map (constructor_at c) ks
      → type_at c copy ≡ type_stated c (head, ks)
  pub known : (c : Contents) → IsStatedIn c head.name head.levels.items head.ty
      → All (IsConstructorIn c) constructors → IsTypeIn c copy

-- What is made from lines: what it stands for, and that it is the store's where the lines are.
pub record AreMade {A X V : Type 0} (value : Contents → A → V) (stated : Contents → X → V)
    (IsKnown : Contents → A → Type 0) (lines : List StoredLine) (xs : List X) (made : List A)
    : Type 0 where
  pub same : (c : Contents) → map (value c) made ≡ map (stated c) xs
  pub known : (c : Contents) → AreLinesIn c lines → All (IsKnown c) made

abbrev pub AreConstructorsMade : List StoredLine → List Constructor → List Constructor → Type 0
AreConstructorsMade lines ks made =
    AreMade constructor_at constructor_at IsConstructorIn lines ks made

abbrev pub AreTypesMade : List StoredLine → List (TypeHead × List Constructor) → List BlockType
    → Type 0
AreTypesMade lines ts made = AreMade type_at type_stated IsTypeIn lines ts made

abbrev pub AreRecursorsMade : List StoredLine → List Recursor → List Recursor → Type 0
AreRecursorsMade lines rs made = AreMade recursor_at recursor_at IsRecursorIn lines rs made

abbrev pub block_value : Contents → Block → LibraryUnit
block_value c b = unit_at c (unit.Block b)

abbrev pub IsBlockIn : Contents → Block → Type 0
IsBlockIn c b = IsUnitIn c (unit.Block b)

abbrev pub AreBlocksMade : List StoredLine → List NumberedUnit → List Block → Type 0
AreBlocksMade lines us made = AreMade block_value unit_stated IsBlockIn lines us made

-- a recursor made from a line
pub record IsRecursorMade (s : StoredMember) (rs made : List Recursor) : Type 0 where
  pub same : (c : Contents) → map (recursor_at c) made ≡ map (recursor_at c) rs
  pub known : (c : Contents) → IsStoredMemberIn c s → All (IsRecursorIn c) made

-- the types of a block
abbrev pub types_listed : List NumberedLine → List ℕ → List (TypeHead × List Constructor)
types_listed lines ts = flat_map (λ x. with_ctors nat_eq lines x (type_of nat_eq lines x)) ts

-- Blocks at their last lines, by the first names of their lists.
abbrev pub begins_with : ℕ → Option (List ℕ) → Bool
begins_with q None = false
begins_with q (Some []) = false
begins_with q (Some (t ∷ ts)) = nat_eq t q

abbrev pub any_begins : List NumberedLine → List NumberedLine → ℕ → Bool
any_begins lines later q =
    list_any (λ (l : NumberedLine). begins_with q (block_at nat_eq lines l.said)) later

-- a block, unless its first name was met
abbrev pub ended_unless : (ℕ → Bool) → List NumberedLine → Option (List ℕ) → List NumberedUnit
ended_unless met lines None = []
ended_unless met lines (Some []) = []
ended_unless met lines (Some (t ∷ ts)) = if met t then [] else block_with nat_eq lines (t ∷ ts) ∷ []

-- for each of these lines the block that ends there, where there is one
abbrev pub AreEnded : List StoredLine → List NumberedLine → List (Option Block) → Type 0
AreEnded ls [] [] = Unit {0}
AreEnded ls [] (b ∷ bs) = ⊥
AreEnded ls (l ∷ later) [] = ⊥
AreEnded ls (l ∷ later) (b ∷ bs) =
    AreBlocksMade ls (ended nat_eq (lines_of ls) later (block_at nat_eq (lines_of ls) l.said))
    (if_any b) × AreEnded ls later bs

-- blocks at the lines that are marked
abbrev pub marked : List Bool → List Block → List (Option Block)
marked [] bs = []
marked (false ∷ ms) bs = None ∷ marked ms bs
marked (true ∷ ms) [] = None ∷ marked ms []
marked (true ∷ ms) (b ∷ bs) = Some b ∷ marked ms bs

abbrev pub blocks_at : Ends → List (Option Block)
blocks_at e = marked (reverse e.marks.items) (reverse e.blocks.items)

-- the first of these, where there is one, and those behind it
abbrev pub IsNext : List (Option Block) → Option Block → List (Option Block) → Type 0
IsNext [] first others = Unit {0}
IsNext (o ∷ os) first others = (first ≡ o) × (others ≡ os)

abbrev pub AreUnitsMade : List StoredLine → List NumberedUnit → List StoredUnit → Type 0
AreUnitsMade lines us made = AreMade unit_at unit_stated IsUnitIn lines us made

-- the unit that stands at a line, where a block is what ends there
abbrev pub block_unit : Option Block → Option StoredUnit
block_unit None = None
block_unit (Some b) = Some (unit.Block b)

abbrev pub unit_here : StoredMember → Option Block → Option StoredUnit
unit_here (stored.Alone d) o = Some (unit.Declaration d)
unit_here (stored.Type head types) o = block_unit o
unit_here (stored.Constructor k) o = block_unit o
unit_here (stored.Recursor types r) o = block_unit o

-- whether the unit that stands at a line is a declaration alone, where one does; a block may end
-- there
abbrev pub kind_at_end : Bool → List Bool
kind_at_end ends = if ends then false ∷ [] else []

abbrev pub kind_here : StoredMember → Bool → List Bool
kind_here (stored.Alone d) ends = true ∷ []
kind_here (stored.Type head types) ends = kind_at_end ends
kind_here (stored.Constructor k) ends = kind_at_end ends
kind_here (stored.Recursor types r) ends = kind_at_end ends

-- there are units only where no line is open, and the first that is open is told; memory may be
-- missing in either case
abbrev pub Finishes : {A : Type 0} → Result A FinishError → Option ℕ → Type 0
Finishes (Ok us) open_line = open_line ≡ None
Finishes (Err NoMemory) open_line = Unit {0}
Finishes (Err (Open n)) open_line = open_line ≡ Some n
