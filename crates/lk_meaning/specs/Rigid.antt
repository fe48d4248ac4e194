-- Constants that never unfold, and whose trees are no proofs.
use Rattle.std.specs.Prelude.{ℕ, zero, suc, ◌≡◌, List, [], ◌∷◌, Some}
use Rattle.lk_tree.specs.Tree.{Name, Level, Tree, sort, const, app, lam, pi, lit, local}
use Rattle.lk_tree.specs.Level.{level_value}
use Rattle.lk_rulebook.specs.Place.{Place, Entry, Block, BlockType, Ctor, Recursor, a_type, a_rec, a_quot}
use Rattle.lk_rulebook.specs.Structures.{Structure}
use Rattle.lk_rulebook.specs.Names.{nat_zero, nat_succ}
use Rattle.lk_rulebook.specs.Rules.{HasValue, SameLevels, IsDefEq}

-- c stands at the head, under arguments and lambdas; a literal has the head that it has as a constructor
abbrev pub Heads : Name → Tree → Type 0
Heads c (app f a) = Heads c f
Heads c (lam A b) = Heads c b
Heads c (const d ls) = c ≡ d
Heads c (lit zero) = c ≡ nat_zero
Heads c (lit (suc n)) = c ≡ nat_succ
Heads c _ = ⊥

-- c applied
abbrev pub IsApplied : Name → Tree → Type 0
IsApplied c (app f a) = IsApplied c f
IsApplied c (const d ls) = c ≡ d
IsApplied c _ = ⊥

-- Pis that end in a Sort above Prop
abbrev pub EndsInType : Tree → Type 0
EndsInType (pi A B) = EndsInType B
EndsInType (sort l) = (σ : Name → ℕ) → level_value σ l ≡ 0 → ⊥
EndsInType _ = ⊥

-- J is a data type: an inductive type whose stated type ends, as spelled, in a Sort above Prop, and which is not unit-like: a
-- sole constructor has fields
pub record IsDataName (w : Place) (J : Name) : Type 0 where
  pub entry : Entry
  pub block : Block
  pub own : BlockType
  pub given : w.means J ≡ Some entry
  pub kind : entry.kind ≡ a_type block own
  pub above_prop : EndsInType entry.type
  pub no_unit : (x : Ctor) → own.ctors ≡ x ∷ [] → x.fields ≡ 0 → ⊥

-- Pis that end in a Sort, or in a data type applied
abbrev pub IsDataType : Place → Tree → Type 0
IsDataType w (pi A B) = IsDataType w B
IsDataType w (sort l) = Unit {0}
IsDataType w (app f a) = (J : Name) × IsDataName w J × IsApplied J f
IsDataType w (const d ls) = (J : Name) × IsDataName w J × J ≡ d
IsDataType w _ = ⊥

-- c does not unfold, is no recursor and no constructor of a structure, and its stated type ends, as spelled, in a Sort or in a
-- data type
pub record IsRigid (w : Place) (c : Name) : Type 0 where
  pub entry : Entry
  pub given : w.means c ≡ Some entry
  pub no_value : (v : Tree) → HasValue entry v → ⊥
  pub no_recursor : (r : Recursor) → entry.kind ≡ a_rec r → ⊥
  pub no_quotient : entry.kind ≡ a_quot → ⊥
  pub type : IsDataType w entry.type
  pub no_structure : (S : Structure w) → S.ctor_name ≡ c → ⊥

-- Local(k, T) stands at the head, under arguments and lambdas
abbrev pub HeadsLocal : ℕ → Tree → Tree → Type 0
HeadsLocal k T (app f a) = HeadsLocal k T f
HeadsLocal k T (lam A b) = HeadsLocal k T b
HeadsLocal k T (local j U) = (k ≡ j) × (T ≡ U)
HeadsLocal k T _ = ⊥

-- one constant at equal levels, applied to arguments that are equal pair by pair
pub data SameSpine (w : Place) : Tree → Tree → Type 0 where
  same_heads : {c : Name} {ls ms : List Level} → SameLevels ls ms → SameSpine w (const c ls) (const c ms)
  same_args : {f g a b : Tree} → SameSpine w f g → IsDefEq w a b → SameSpine w (app f a) (app g b)
