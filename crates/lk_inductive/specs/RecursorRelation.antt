-- The relation of recursors: each stated one is a recomputed one.
use Rattle.std.specs.Prelude.{◌≡◌, ◌⊎◌, List, [], ◌∷◌, length, map}
use Rattle.lk_tree.specs.Tree.{Level, param, Tree}
use Rattle.lk_tree.specs.Levels.{put_levels}
use Rattle.lk_rulebook.specs.Place.{Place, RecRule, BlockRecursor}
use Rattle.lk_rulebook.specs.Rules.{HasType, HasSort, IsDefEq}

-- with the stated level parameters, position by position
abbrev pub renamed : BlockRecursor → BlockRecursor → Tree → Tree
renamed stated r e = put_levels r.levels (map param stated.levels) e

-- each rule's value has a type, and is equal to the recomputed one
pub data AreRules (w : Place) (stated r : BlockRecursor) : List RecRule → List RecRule → Type 0 where
  no_rule : AreRules w stated r [] []
  a_rule : {a b : RecRule} {as_ bs : List RecRule} {V : Tree} → a.ctor ≡ b.ctor → a.fields ≡ b.fields →
      HasType w a.value V → IsDefEq w a.value (renamed stated r b.value) → AreRules w stated r as_ bs → AreRules w stated r (a ∷ as_) (b ∷ bs)

-- the stated recursor is the recomputed r
pub record IsRec (w : Place) (stated r : BlockRecursor) : Type 0 where
  pub name : stated.name ≡ r.name
  pub parameters : stated.recursor.parameters ≡ r.recursor.parameters
  pub indices : stated.recursor.indices ≡ r.recursor.indices
  pub motives : stated.recursor.motives ≡ r.recursor.motives
  pub minors : stated.recursor.minors ≡ r.recursor.minors
  pub k : stated.recursor.k ≡ r.recursor.k
  pub levels : length stated.levels ≡ length r.levels
  pub type_sort : (l : Level) × HasSort w stated.type l
  pub type : IsDefEq w stated.type (renamed stated r r.type)
  pub rules : AreRules w stated r stated.recursor.rules r.recursor.rules

abbrev pub IsOneOf : Place → BlockRecursor → List BlockRecursor → Type 0
IsOneOf w s [] = ⊥
IsOneOf w s (r ∷ rs) = IsRec w s r ⊎ IsOneOf w s rs

-- each stated recursor is one of those of the block
abbrev pub AreRecs : Place → List BlockRecursor → List BlockRecursor → Type 0
AreRecs w rs [] = Unit {0}
AreRecs w rs (s ∷ ss) = IsOneOf w s rs × AreRecs w rs ss
