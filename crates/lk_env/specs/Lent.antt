-- What an entry of a block has.
use Rattle.std.specs.Prelude.{◌≡◌, ℕ, List, map, All, IfSome, Option, Some, None}
use Rattle.lk_tree.specs.Tree.{Name, Tree}
use Rattle.lk_rulebook.specs.Place.{Place, Entry, Kind as PlainKind, Block as PlainBlock, BlockType as PlainType, Ctor, Recursor as PlainRecursor, a_type, a_ctor, a_rec}
use Rattle.lk_store.specs.Contents.{Contents}
use Rattle.lk_env.specs.declared.entry.Kind.{Kind}
use Rattle.lk_env.specs.declared.unit.Recursor.{Recursor}
use Rattle.lk_env.specs.declared.unit.RecursorRule.{RecursorRule}
use Rattle.lk_env.specs.declared.unit.Block.{Block}
use Rattle.lk_env.specs.declared.unit.BlockType.{BlockType}
use Rattle.lk_env.specs.declared.unit.Constructor.{Constructor}
use Rattle.lk_env.specs.declared.unit.Unit.{Unit as StoredUnit}
use Rattle.lk_env.specs.Units.{block_at, type_at, constructor_at, rule_at, recursor_at, unit_at, IsTypeIn, IsConstructorIn}
use Rattle.lk_env.specs.Entries.{entry_of}

-- the recursor of a kind that is one
abbrev pub recursor_in : PlainKind → Option PlainRecursor
recursor_in (a_rec r) = Some r
recursor_in _ = None

-- the constructor of a kind that is one, with its type
abbrev pub constructor_in : PlainKind → Option (PlainType × Ctor)
constructor_in (a_ctor b t k) = Some (t, k)
constructor_in _ = None

-- the same with its block
abbrev pub member_in : PlainKind → Option (PlainBlock × PlainType × Ctor)
member_in (a_ctor b t k) = Some (b, t, k)
member_in _ = None

-- the type of a kind that is one, with its block
abbrev pub type_in : PlainKind → Option (PlainBlock × PlainType)
type_in (a_type b t) = Some (b, t)
type_in _ = None

-- what a stored constructor with its block and its type stands for
abbrev pub member_at : Contents → Block → BlockType → Constructor → PlainBlock × PlainType × Ctor
member_at c b t k = (block_at c b, type_at c t, constructor_at c k)

-- what a stored recursor stands for, with these rules
abbrev pub given_recursor : Contents → Recursor → List RecursorRule → PlainRecursor
given_recursor c r rules = record (recursor_at c r).recursor { rules = map (rule_at c) rules }

-- it is the recursor of the member that a kind says of a unit, where there is such a member
abbrev pub HasRecursor : Contents → StoredUnit → Kind → Tree → Option PlainRecursor → Type 0
HasRecursor c u k T o = IfSome (entry_of c (unit_at c u) k T) (λ y. recursor_in y.kind ≡ o)

-- the same of a constructor with its block and its type
abbrev pub HasMember : Contents → StoredUnit → Kind → Tree → Option (PlainBlock × PlainType × Ctor) → Type 0
HasMember c u k T o = IfSome (entry_of c (unit_at c u) k T) (λ y. member_in y.kind ≡ o)

-- the same of a type with its block
abbrev pub HasType : Contents → StoredUnit → Kind → Tree → Option (PlainBlock × PlainType) → Type 0
HasType c u k T o = IfSome (entry_of c (unit_at c u) k T) (λ y. type_in y.kind ≡ o)

-- the names and trees of a type and its block are numbers of the store
pub record IsBlockTypeIn (c : Contents) (b : Block) (t : BlockType) : Type 0 where
  pub block_in : All (IsTypeIn c) b.types.items
  pub type_in : IsTypeIn c t

-- the same of a constructor, its block and its type
pub record IsMemberIn (c : Contents) (b : Block) (t : BlockType) (k : Constructor) : Type 0 where
  pub block_in : All (IsTypeIn c) b.types.items
  pub type_in : IsTypeIn c t
  pub constructor_in : IsConstructorIn c k

-- the number of parameters of a kind that is a type
abbrev pub parameters_in : PlainKind → Option ℕ
parameters_in (a_type b t) = Some t.parameters
parameters_in _ = None

-- it is that of the type that the name means at the place, and none where the name means something else
pub record HasParameters (w : Place) (x : Name) (count : Option ℕ) : Type 0 where
  pub entry : Entry
  pub means : w.means x ≡ Some entry
  pub count_is : count ≡ parameters_in entry.kind
