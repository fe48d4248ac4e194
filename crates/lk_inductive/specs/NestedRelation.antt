-- The nested relation: a larger block stands for a stated one.
use Rattle.std.specs.Prelude.{ℕ, suc, ◌≡◌, ◌⊎◌, false, List, [], ◌∷◌, ◌++◌, length, Some, None}
use Rattle.lk_tree.specs.Tree.{Name, Part, Tree, const, app, lam, pi, let_in, proj, local}
use Rattle.lk_tree.specs.Levels.{put_levels}
use Rattle.lk_tree.specs.Bind.{opened, close}
use Rattle.lk_tree.specs.WellFormed.{IsWellFormed, HasLocal}
use Rattle.lk_rulebook.specs.Place.{Place, Entry, Block, BlockType, Ctor, a_type}
use Rattle.lk_tree.specs.Mentions.{is_one_of}
use Rattle.lk_rulebook.specs.Units.{Members}
use Rattle.lk_inductive.specs.Block.{Shape}
use Rattle.lk_inductive.specs.Relation.{IsAmong, IsBlock, CountsAgree}
use Rattle.lk_inductive.specs.Recursors.{number, pis, BlockRecursor, recursors_by}
use Rattle.lk_inductive.specs.RecursorRelation.{AreRecs}
use Rattle.lk_inductive.specs.Enlarged.{Aux, Setting, Larger, larger_block, aux_name, aux_ctor, aux_from, bare_entries, setting_of}
use Rattle.lk_inductive.specs.Restore.{Original, first_name, all_stand, restore, restoring_of}
use Rattle.lk_inductive.specs.Whole.{partial_types, partial_members, TypesSorted, AllCtorsSorted}

-- r is the stated tree past its first Pis, with these put in
pub data Instance : List Tree → Tree → Tree → Type 0 where
  past_none : {r : Tree} → Instance [] r r
  past_one : {x A B r : Tree} {xs : List Tree} → Instance xs (opened B x) r → Instance (x ∷ xs) (pi A B) r

-- what stands in the larger block for e: past P0 .., whose stated domains stay, it gives e once it is read back
pub data ReadsPast (s : Setting) (ms : List (Name × Original)) : List Tree → Tree → Tree → Type 0 where
  read_rest : {e : Tree} (e' : Tree) → restore ms s e' [] ≡ e → ReadsPast s ms [] e e'
  read_past : {P A B : Tree} {ps : List Tree} (e' : Tree) → ReadsPast s ms ps (opened B P) e' → ReadsPast s ms (P ∷ ps) (pi A B) (pi A (close (number P) e'))

pub data ReadsAs (s : Setting) (ms : List (Name × Original)) : Tree → Tree → Type 0 where
  as_stated : {e : Tree} → restore ms s e [] ≡ e → ReadsAs s ms e e
  past_params : {e e' : Tree} → ReadsPast s ms s.params e e' → ReadsAs s ms e e'

-- the stated constructor c stands as d
pub record IsOwnCtor (s : Setting) (ms : List (Name × Original)) (c d : Ctor) : Type 0 where
  pub name : d.name ≡ c.name
  pub levels : d.levels ≡ c.levels
  pub parent : d.parent ≡ c.parent
  pub place : d.place ≡ c.place
  pub parameters : d.parameters ≡ c.parameters
  pub fields : d.fields ≡ c.fields
  pub type : ReadsAs s ms c.type d.type

pub data OwnCtors (s : Setting) (ms : List (Name × Original)) : List Ctor → List Ctor → Type 0 where
  no_own_ctor : OwnCtors s ms [] []
  own_ctor_more : {c d : Ctor} {cs ds : List Ctor} → IsOwnCtor s ms c d → OwnCtors s ms cs ds → OwnCtors s ms (c ∷ cs) (d ∷ ds)

-- the stated type t stands as u
pub record IsOwnType (s : Setting) (ms : List (Name × Original)) (t u : BlockType) : Type 0 where
  pub name : u.name ≡ t.name
  pub levels : u.levels ≡ t.levels
  pub type : u.type ≡ t.type
  pub parameters : u.parameters ≡ t.parameters
  pub indices : u.indices ≡ t.indices
  pub ctors : OwnCtors s ms t.ctors u.ctors

pub data OwnTypes (s : Setting) (ms : List (Name × Original)) : List BlockType → List BlockType → Type 0 where
  no_own_type : OwnTypes s ms [] []
  own_type_more : {t u : BlockType} {ts us : List BlockType} → IsOwnType s ms t u → OwnTypes s ms ts us → OwnTypes s ms (t ∷ ts) (u ∷ us)

abbrev pub IsTypeOf : BlockType → List BlockType → Type 0
IsTypeOf t [] = ⊥
IsTypeOf t (u ∷ us) = (u ≡ t) ⊎ IsTypeOf t us

-- closed, with no Local but P0 ..
abbrev pub AreOverParams : List Tree → List Tree → Type 0
AreOverParams ps [] = Unit {0}
AreOverParams ps (b ∷ bs) = (IsWellFormed b × ((k : ℕ) (T : Tree) → HasLocal k T b → IsAmong (local k T) ps)) × AreOverParams ps bs

-- the auxiliary type's own is a type of an earlier block, at levels and parameters: J, which the place gives, or another
-- type of J's block
pub record IsFrom (w : Place) (s : Setting) (a : Aux) : Type 0 where
  pub J : Name
  pub entry : Entry
  pub block : Block
  pub type : BlockType
  pub given : w.means J ≡ Some entry
  pub kind : entry.kind ≡ a_type block type
  pub earlier : is_one_of s.names J ≡ false
  pub own : ((a.name ≡ J) × (a.own ≡ type)) ⊎ ((a.name ≡ a.own.name) × IsTypeOf a.own block.types)
  pub parameters : length a.args ≡ type.parameters
  pub args : AreOverParams s.params a.args
  pub levels : length a.levels ≡ length a.own.levels

-- d stands for the constructor c of auxiliary type i at its levels and parameters, closed over the types of P0 ..
pub record IsAuxCtor (s : Setting) (ms : List (Name × Original)) (i : ℕ) (a : Aux) (c d : Ctor) : Type 0 where
  pub name : d.name ≡ aux_ctor i c.name
  pub levels : d.levels ≡ s.levels
  pub parameters : d.parameters ≡ length s.params
  pub fields : d.fields ≡ c.fields
  pub counts : length a.levels ≡ length c.levels
  pub body : Tree
  pub type : d.type ≡ pis s.params body
  pub at : Tree
  pub instance : Instance a.args (put_levels c.levels a.levels c.type) at
  pub read : restore ms s body [] ≡ at

pub data AuxCtors (s : Setting) (ms : List (Name × Original)) (i : ℕ) (a : Aux) : List Ctor → List Ctor → Type 0 where
  no_aux_ctor : AuxCtors s ms i a [] []
  aux_ctor_more : {c d : Ctor} {cs ds : List Ctor} → IsAuxCtor s ms i a c d → AuxCtors s ms i a cs ds → AuxCtors s ms i a (c ∷ cs) (d ∷ ds)

-- t is auxiliary type i
pub record IsAux (w : Place) (s : Setting) (ms : List (Name × Original)) (i : ℕ) (a : Aux) (t : BlockType) : Type 0 where
  pub from : IsFrom w s a
  pub name : t.name ≡ aux_name i
  pub levels : t.levels ≡ s.levels
  pub parameters : t.parameters ≡ length s.params
  pub indices : t.indices ≡ a.own.indices
  pub instance : Instance a.args (put_levels a.own.levels a.levels a.own.type) a.type
  pub type : t.type ≡ pis s.params a.type
  pub ctors : AuxCtors s ms i a a.own.ctors t.ctors

-- the auxiliary types from number i on
pub data AuxTypes (w : Place) (s : Setting) (ms : List (Name × Original)) (auxs : List Aux) : ℕ → List BlockType → Type 0 where
  no_aux : {i : ℕ} → aux_from auxs i ≡ None → AuxTypes w s ms auxs i []
  aux_more : {i : ℕ} {a : Aux} {t : BlockType} {ts : List BlockType} → aux_from auxs i ≡ Some a → IsAux w s ms i a t → AuxTypes w s ms auxs (suc i) ts → AuxTypes w s ms auxs i (t ∷ ts)

-- the larger block stands for the stated one
pub record IsEnlarged (w : Place) (s : Setting) (b : Block) (lg : Larger) : Type 0 where
  pub own : OwnTypes s (all_stand (first_name b.types) 0 lg.auxs) b.types lg.own
  pub aux : AuxTypes w s (all_stand (first_name b.types) 0 lg.auxs) lg.auxs 0 lg.aux

-- what is partial while the larger block's constructors are walked, and at the end
abbrev pub middle_half : Block → Larger → Members
middle_half b lg = partial_types b ++ bare_entries lg.aux

abbrev pub last_half : Block → List BlockRecursor → Larger → Members
last_half b stated lg = middle_half b lg ++ partial_members b stated

-- the block is derived: before it, among its types, and among the auxiliary ones too
pub record NestedDerived (places : Members → Place) (b : Block) (stated : List BlockRecursor) (shape : Shape) : Type 0 where
  pub counts : CountsAgree b
  pub types_sorted : TypesSorted (places []) b.types
  pub ctors_sorted : AllCtorsSorted (places (partial_types b)) b.types
  pub larger : Larger
  pub enlarged : IsEnlarged (places (partial_types b)) (setting_of b shape.params) b larger
  pub block : IsBlock (places []) (places (middle_half b larger)) (larger_block larger) shape
  pub recs : AreRecs (places (last_half b stated larger)) (recursors_by (restoring_of b (setting_of b shape.params) larger) shape) stated

-- names of auxiliary things begin with one of two components that hold LF
abbrev pub IsMarked : Name → Type 0
IsMarked c = (d : Name) × ((c ≡ Part.text (10 ∷ []) ∷ d) ⊎ (c ≡ Part.text (10 ∷ 10 ∷ []) ∷ d))

-- no constant of the tree has such a name
abbrev pub Clear : Tree → Type 0
Clear (const c ls) = IsMarked c → ⊥
Clear (app f a) = Clear f × Clear a
Clear (lam A b) = Clear A × Clear b
Clear (pi A B) = Clear A × Clear B
Clear (let_in A v b) = Clear A × Clear v × Clear b
Clear (proj S i e) = Clear e
Clear _ = Unit {0}

abbrev pub ClearCtors : List Ctor → Type 0
ClearCtors [] = Unit {0}
ClearCtors (c ∷ cs) = Clear c.type × ClearCtors cs

abbrev pub ClearTypes : List BlockType → Type 0
ClearTypes [] = Unit {0}
ClearTypes (t ∷ ts) = (Clear t.type × ClearCtors t.ctors) × ClearTypes ts

-- as no line spells LF
abbrev pub IsClear : Place → Type 0
IsClear w = (c : Name) (e : Entry) (b : Block) (t : BlockType) → w.means c ≡ Some e → e.kind ≡ a_type b t → (Clear t.type × ClearCtors t.ctors) × ClearTypes b.types
