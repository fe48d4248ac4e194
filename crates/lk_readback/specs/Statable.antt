-- What a line of an export can state: numbers below their limits, and texts that are UTF-8 and, in a
-- name, hold no line feed. Each unit that is read is so.
use Rattle.std.specs.Prelude.{ℕ, ◌≡◌, ◌≢◌, ◌<◌, ◌^◌, List, [], length, All, IsUtf8}
use Rattle.std.specs.Prelude.{◌∷◌, slice_get, Some, true}
use Rattle.lk_tree.specs.Tree.{Name, Part, text, number, Level, zero_level, succ_level, max_level}
use Rattle.lk_tree.specs.Tree.{imax_level, param, Tree, var, sort, const, app, lam, pi, let_in}
use Rattle.lk_tree.specs.Tree.{proj, lit, wide, str, local}
use Rattle.lk_tree.specs.Mentions.{same_name}
use Rattle.lk_rulebook.specs.Place.{Hint, opaque_hint, abbreviation, regular, Ctor, BlockType, Block}
use Rattle.lk_rulebook.specs.Place.{type_names, RecRule, BlockRecursor}
use Rattle.lk_rulebook.specs.Units.{Body, as_axiom, as_def, as_thm, as_opaque, as_quot, Decl}
use Rattle.lk_rulebook.specs.Units.{LibraryUnit, of_decl, of_block, Library}
use Rattle.lk_env.specs.Budgets.{StatedBudget}
use Rattle.lk_token.specs.Lines.{HasNoLineFeed}
use Rattle.lk_members.specs.Lines.{has, is_distinct}
use Rattle.lk_trim.specs.Units.{ctor_names}

-- a number of a field
abbrev pub IsSmall : ℕ → Type 0
IsSmall n = n < 2 ^ 32

abbrev pub IsPart : Part → Type 0
IsPart (text bytes) = IsUtf8 bytes × HasNoLineFeed bytes
IsPart (number k) = k < 2 ^ 64

abbrev pub IsName : Name → Type 0
IsName x = All IsPart x

abbrev pub AreNames : List Name → Type 0
AreNames xs = All IsName xs

abbrev pub IsLevel : Level → Type 0
IsLevel zero_level = Unit {0}
IsLevel (succ_level l) = IsLevel l
IsLevel (max_level l m) = IsLevel l × IsLevel m
IsLevel (imax_level l m) = IsLevel l × IsLevel m
IsLevel (param n) = IsName n

abbrev pub IsTree : Tree → Type 0
IsTree (var i) = IsSmall i
IsTree (sort l) = IsLevel l
IsTree (const n ls) = IsName n × All IsLevel ls
IsTree (app f a) = IsTree f × IsTree a
IsTree (lam A b) = IsTree A × IsTree b
IsTree (pi A B) = IsTree A × IsTree B
IsTree (let_in A v b) = IsTree A × (IsTree v × IsTree b)
IsTree (proj S i s) = IsName S × (IsSmall i × IsTree s)
IsTree (lit n) = n < 2 ^ 128
IsTree wide = Unit {0}
IsTree (str bytes) = IsUtf8 bytes
IsTree (local k T) = ⊥

abbrev pub IsHint : Hint → Type 0
IsHint opaque_hint = Unit {0}
IsHint abbreviation = Unit {0}
IsHint (regular n) = IsSmall n

abbrev pub IsBody : Body → Type 0
IsBody as_axiom = Unit {0}
IsBody (as_def h v) = IsHint h × IsTree v
IsBody (as_thm v) = IsTree v
IsBody (as_opaque v) = IsTree v
IsBody as_quot = Unit {0}

pub record IsDecl (d : Decl) : Type 0 where
  pub name : IsName d.name
  pub levels : AreNames d.levels
  pub type : IsTree d.type
  pub body : IsBody d.body

-- a constructor in the list of the type of this name
pub record IsCtor (parent : Name) (c : Ctor) : Type 0 where
  pub name : IsName c.name
  pub levels : AreNames c.levels
  pub type : IsTree c.type
  pub parent_is : c.parent ≡ parent
  pub place : IsSmall c.place
  pub parameters : IsSmall c.parameters
  pub fields : IsSmall c.fields

pub record IsType (t : BlockType) : Type 0 where
  pub name : IsName t.name
  pub levels : AreNames t.levels
  pub type : IsTree t.type
  pub parameters : IsSmall t.parameters
  pub indices : IsSmall t.indices
  pub ctors : All (IsCtor t.name) t.ctors
  pub few : IsSmall (length t.ctors)
  pub distinct : is_distinct same_name (ctor_names t.ctors) ≡ true

pub record IsRule (r : RecRule) : Type 0 where
  pub ctor : IsName r.ctor
  pub fields : IsSmall r.fields
  pub value : IsTree r.value

pub record IsRecursor (r : BlockRecursor) : Type 0 where
  pub name : IsName r.name
  pub levels : AreNames r.levels
  pub type : IsTree r.type
  pub parameters : IsSmall r.recursor.parameters
  pub indices : IsSmall r.recursor.indices
  pub motives : IsSmall r.recursor.motives
  pub minors : IsSmall r.recursor.minors
  pub rules : All IsRule r.recursor.rules
  pub few : IsSmall (length r.recursor.rules)

abbrev pub recursor_names : List BlockRecursor → List Name
recursor_names [] = []
recursor_names (r ∷ rs) = r.name ∷ recursor_names rs

pub record IsBlock (b : Block) (rs : List BlockRecursor) : Type 0 where
  pub types : All IsType b.types
  pub recursors : All IsRecursor rs
  pub some : b.types ≢ []
  pub few : IsSmall (length b.types)
  pub types_distinct : is_distinct same_name (type_names b.types) ≡ true
  pub recursors_distinct : is_distinct same_name (recursor_names rs) ≡ true

abbrev pub IsUnit : LibraryUnit → Type 0
IsUnit (of_decl d) = IsDecl d
IsUnit (of_block b rs) = IsBlock b rs

-- the names of a unit's types
abbrev pub types_of : LibraryUnit → List Name
types_of (of_decl d) = []
types_of (of_block b rs) = type_names b.types

-- units that an export can state: no name is a type's of two blocks
pub record AreStatable (us : Library) : Type 0 where
  pub each : All IsUnit us
  pub apart : (m n : ℕ) (u v : LibraryUnit) (x : Name) → m ≢ n → slice_get us m ≡ Some u
      → slice_get us n ≡ Some v → has same_name (types_of u) x ≡ true
      → has same_name (types_of v) x ≡ true → ⊥

pub record IsBudget (b : StatedBudget) : Type 0 where
  pub name : IsName b.name
  pub steps : b.steps < 2 ^ 64
