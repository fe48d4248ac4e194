-- The block relation: telescopes by reduction, positive fields, constructors, large elimination.
use Rattle.std.specs.Prelude.{ℕ, suc, ◌≡◌, ◌≤◌, ◌+◌, ◌⊎◌, true, false, List, [], ◌∷◌, ◌++◌, length}
use Rattle.lk_tree.specs.Tree.{Name, Level, zero_level, Tree, sort, const, pi, local}
use Rattle.lk_tree.specs.Level.{SameLevel, AtMost, level_value}
use Rattle.lk_tree.specs.Bind.{opened, bound}
use Rattle.lk_tree.specs.Spine.{apply}
use Rattle.lk_tree.specs.WellFormed.{IsWellFormed}
use Rattle.lk_rulebook.specs.Place.{Place, Block, BlockType, Ctor}
use Rattle.lk_tree.specs.Mentions.{mentions}
use Rattle.lk_rulebook.specs.Rules.{HasSort, IsProposition, Reduces, IsDefEq}
use Rattle.lk_inductive.specs.Block.{levels_of, parameters_of, Frame, frame_of, FieldKind, plain, recursive, under, Field, CtorShape, TypeShape, Shape, domain}

-- r reduces to n Pis one after another, opened with Locals from number j on, and then what is left
pub data Telescope (w : Place) : ℕ → ℕ → Tree → List Tree → Tree → Type 0 where
  no_pi : {j : ℕ} {r : Tree} → Telescope w j 0 r [] r
  a_pi : {j n : ℕ} {r A B rest : Tree} {xs : List Tree} →
      Reduces w r (pi A B) → bound (pi A B) ≤ j →
      Telescope w (suc j) n (opened B (local j A)) xs rest → Telescope w j (suc n) r (local j A ∷ xs) rest

-- P0 .. are the Locals with which the Pis that the first type reduces to are opened
pub data AreParams (w : Place) : List BlockType → List Tree → Type 0 where
  of_first : {t : BlockType} {ts : List BlockType} {rest : Tree} {ps : List Tree} → Telescope w 0 (length ps) t.type ps rest → AreParams w (t ∷ ts) ps

-- r reduces to Pis whose domains are equal to the types of the given Locals, which are put in, and then what is left
pub data Over (w : Place) : List Tree → Tree → Tree → Type 0 where
  over_none : {r : Tree} → Over w [] r r
  over_one : {r A B P rest : Tree} {ps : List Tree} →
      Reduces w r (pi A B) → IsDefEq w A (domain P) → Over w ps (opened B P) rest → Over w (P ∷ ps) r rest

abbrev pub MentionNone : List Name → List Tree → Type 0
MentionNone ns [] = Unit {0}
MentionNone ns (i ∷ is) = (mentions ns i ≡ false) × MentionNone ns is

-- T is a type of the block with n indices
abbrev pub IsListed : List (Name × ℕ) → Name → ℕ → Type 0
IsListed [] T n = ⊥
IsListed (t ∷ ts) T n = ((t.0 ≡ T) × (t.1 ≡ n)) ⊎ IsListed ts T n

-- T us P0 .. is, with as many indices as T has, which mention no type of the block
pub record IsMember (F : Frame) (T : Name) (is : List Tree) (e : Tree) : Type 0 where
  pub spelled : e ≡ apply (const T F.levels) (F.params ++ is)
  pub listed : IsListed F.types T (length is)
  pub plain : MentionNone F.names is

-- A is positive, as a plain field or a recursive one; Locals from number j on are new
pub data IsPositive (w : Place) (F : Frame) : ℕ → Tree → FieldKind → Type 0 where
  mentions_none : {j : ℕ} {A A' : Tree} → Reduces w A A' → mentions F.names A' ≡ false → IsPositive w F j A plain
  arrow : {j : ℕ} {A D E : Tree} {k : FieldKind} →
      Reduces w A (pi D E) → bound (pi D E) ≤ j → mentions F.names D ≡ false →
      IsPositive w F (suc j) (opened E (local j D)) k → IsPositive w F j A (under (local j D) k)
  member : {j : ℕ} {A A' : Tree} {T : Name} {is : List Tree} →
      Reduces w A A' → bound A' ≤ j → IsMember F T is A' → IsPositive w F j A (recursive [] T is)

-- a field's type lies in a universe that is at most the block's, unless that is Prop
pub data FitsIn (w : Place) (l : Level) (A : Tree) : Type 0 where
  in_prop : SameLevel l zero_level → FitsIn w l A
  in_universe : {s : Level} → HasSort w A s → AtMost s l → FitsIn w l A

-- r is n fields from number j on, and then what is left
pub data AreFields (w : Place) (F : Frame) : ℕ → ℕ → Tree → List Field → Tree → Type 0 where
  no_field : {j : ℕ} {r : Tree} → AreFields w F j 0 r [] r
  a_field : {j n : ℕ} {r A B rest : Tree} {k : FieldKind} {fs : List Field} →
      Reduces w r (pi A B) → bound (pi A B) ≤ j → FitsIn w F.sort A → IsPositive w F (suc j) A k →
      AreFields w F (suc j) n (opened B (local j A)) fs rest →
      AreFields w F j (suc n) r (record { variable = local j A; kind = k } ∷ fs) rest

-- the constructor of T is a telescope over P0 .., then its fields, and ends in T applied
pub record IsCtor (w : Place) (F : Frame) (T : Name) (c : Ctor) (s : CtorShape) : Type 0 where
  pub name : s.name ≡ c.name
  pub rest : Tree
  pub last : Tree
  pub last_is : Tree
  pub over : Over w F.params c.type rest
  pub fields : AreFields w F (length F.params) c.fields rest s.fields last
  pub ends : Reduces w last last_is
  pub scoped : bound last_is ≤ length F.params + c.fields
  pub own : IsMember F T s.indices last_is

-- the type is a telescope over P0 .., then its indices, and ends in a Sort at the block's level
pub record IsTypeOver (w : Place) (F : Frame) (t : BlockType) (xs : List Tree) : Type 0 where
  pub rest : Tree
  pub last : Tree
  pub level : Level
  pub over : Over w F.params t.type rest
  pub indices : Telescope w (length F.params) t.indices rest xs last
  pub ends : Reduces w last (sort level)
  pub same : SameLevel level F.sort

pub data AreCtors (w : Place) (F : Frame) (T : Name) : List Ctor → List CtorShape → Type 0 where
  no_ctor : AreCtors w F T [] []
  a_ctor_more : {c : Ctor} {s : CtorShape} {cs : List Ctor} {ss : List CtorShape} → IsCtor w F T c s → AreCtors w F T cs ss → AreCtors w F T (c ∷ cs) (s ∷ ss)

-- each type at the place before the block, and each constructor where the types are partial
pub data AreTypes (before among : Place) (F : Frame) : List BlockType → List TypeShape → Type 0 where
  no_type : AreTypes before among F [] []
  a_type_more : {t : BlockType} {s : TypeShape} {ts : List BlockType} {ss : List TypeShape} →
      s.name ≡ t.name → IsTypeOver before F t s.indices → AreCtors among F t.name t.ctors s.ctors →
      AreTypes before among F ts ss → AreTypes before among F (t ∷ ts) (s ∷ ss)

-- x is one of the trees
abbrev pub IsAmong : Tree → List Tree → Type 0
IsAmong x [] = ⊥
IsAmong x (i ∷ is) = (x ≡ i) ⊎ IsAmong x is

-- each field is a proof or is among the indices
abbrev pub AreSmall : Place → List Tree → List Field → Type 0
AreSmall w is [] = Unit {0}
AreSmall w is (f ∷ fs) = (IsProposition w (domain f.variable) ⊎ IsAmong f.variable is) × AreSmall w is fs

-- the block may be eliminated into every universe
pub data MayBeLarge (w : Place) (l : Level) : List TypeShape → Type 0 where
  not_prop : {ts : List TypeShape} → ((σ : Name → ℕ) → 1 ≤ level_value σ l) → MayBeLarge w l ts
  empty : {t : TypeShape} → t.ctors ≡ [] → MayBeLarge w l (t ∷ [])
  small : {t : TypeShape} {c : CtorShape} → t.ctors ≡ c ∷ [] → AreSmall w c.indices c.fields → MayBeLarge w l (t ∷ [])

-- Locals numbered from j on, whose types hold only earlier ones
abbrev pub AreNumbered : ℕ → List Tree → Type 0
AreNumbered j [] = Unit {0}
AreNumbered j (p ∷ ps) = ((A : Tree) × (p ≡ local j A) × IsWellFormed (local j A)) × AreNumbered (suc j) ps

-- each member of the block states the same level parameters and number of parameters, each constructor its parent and its
-- place in the parent's list
pub record CtorAgrees (p : ℕ) (us : List Name) (T : Name) (i : ℕ) (c : Ctor) : Type 0 where
  pub levels : c.levels ≡ us
  pub parameters : c.parameters ≡ p
  pub parent : c.parent ≡ T
  pub place : c.place ≡ i

abbrev pub CtorsAgree : ℕ → List Name → Name → ℕ → List Ctor → Type 0
CtorsAgree p us T i [] = Unit {0}
CtorsAgree p us T i (c ∷ cs) = CtorAgrees p us T i c × CtorsAgree p us T (suc i) cs

abbrev pub TypesAgree : ℕ → List Name → List BlockType → Type 0
TypesAgree p us [] = Unit {0}
TypesAgree p us (t ∷ ts) = ((t.levels ≡ us) × (t.parameters ≡ p) × CtorsAgree p us t.name 0 t.ctors) × TypesAgree p us ts

abbrev pub CountsAgree : Block → Type 0
CountsAgree b = TypesAgree (parameters_of b) (levels_of b) b.types

-- the shape of a block: its parameters, and each type and constructor
pub record IsBlock (before among : Place) (b : Block) (s : Shape) : Type 0 where
  pub levels : s.levels ≡ levels_of b
  pub parameters : length s.params ≡ parameters_of b
  pub params : AreParams before b.types s.params
  pub types : AreTypes before among (frame_of b s.params s.sort) b.types s.types
  pub large : s.large ≡ true → MayBeLarge among s.sort s.types
