-- A block with nested occurrences, enlarged: auxiliary types stand for them.
use Rattle.std.specs.Prelude.{ℕ, zero, suc, List, [], ◌∷◌, ◌++◌, Option, Some, None}
use Rattle.lk_tree.specs.Tree.{Name, Part, Level, Tree}
use Rattle.lk_rulebook.specs.Place.{Block, BlockType, a_type, type_names}
use Rattle.lk_rulebook.specs.Units.{Members}
use Rattle.lk_inductive.specs.Block.{levels_of}

-- J ls b1 .. bq for a type J of an earlier block, and what J's stated trees become at ls and b1 .. bq: its type past the
-- parameters, that type's indices and the level of its Sort, and its constructors' types past the parameters
pub record Aux : Type 0 where
  pub name : Name
  pub own : BlockType
  pub levels : List Level
  pub args : List Tree
  pub type : Tree
  pub indices : List Tree
  pub sort : Level
  pub ctors : List Tree

-- the block's types, its level parameters, and P0 ..
pub record Setting : Type 0 where
  pub names : List Name
  pub levels : List Name
  pub params : List Tree

abbrev pub setting_of : Block → List Tree → Setting
setting_of b ps = record { names = type_names b.types; levels = levels_of b; params = ps }

-- the name of auxiliary type i, and of its constructor c; their first components hold LF and differ, so no two of these
-- names and of the recursors' are one, whatever c is
abbrev pub aux_name : ℕ → Name
aux_name i = Part.text (10 ∷ []) ∷ Part.number i ∷ []

abbrev pub aux_ctor : ℕ → Name → Name
aux_ctor i c = Part.text (10 ∷ 10 ∷ []) ∷ Part.number i ∷ c

-- auxiliary type i
abbrev pub aux_from : List Aux → ℕ → Option Aux
aux_from [] i = None
aux_from (a ∷ as_) zero = Some a
aux_from (a ∷ as_) (suc i) = aux_from as_ i

-- the block's own types, the auxiliary ones, and what each of these stands for
pub record Larger : Type 0 where
  pub own : List BlockType
  pub aux : List BlockType
  pub auxs : List Aux

abbrev pub larger_block : Larger → Block
larger_block l = record { types = l.own ++ l.aux }

-- an auxiliary type as it is partial: without constructors
abbrev pub bare : BlockType → BlockType
bare t = record t { ctors = [] }

abbrev pub bare_entries : List BlockType → Members
bare_entries [] = []
bare_entries (t ∷ ts) = (t.name, record { levels = t.levels; type = t.type; kind = a_type (record { types = bare t ∷ [] }) (bare t) }) ∷ bare_entries ts
