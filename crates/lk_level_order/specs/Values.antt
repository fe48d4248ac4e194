-- Levels computed at values of their parameters.
use Rattle.std.specs.Prelude.{◌≡◌, ◌≢◌, ℕ, zero, suc, ◌<◌, ◌%◌, ◌/◌, Bool, true, false, nat_eq}
use Rattle.std.specs.Prelude.{nat_le, List, [], ◌∷◌, length, slice_index, slice_set}
use Rattle.lk_tree.specs.Tree.{Name, name_discrete, Level}
use Rattle.lk_tree.specs.Level.{level_value}
use Rattle.lk_store.specs.Contents.{Contents, level_at}
use Rattle.lk_level_order.specs.declared.placing.PlacedLevel.{PlacedLevel}
use Rattle.lk_level_order.specs.Placing.{IsOrder}
use Rattle.lk_level_order.specs.declared.relation.Relation.{Relation}
use Rattle.lk_level_order.specs.declared.relation.Relation.TheVariants.{Equal, AtMost}

-- the assignment that gives each of the names its value, and 0 to all others
abbrev pub assigned : List Name → List ℕ → Name → ℕ
assigned [] vs n = 0
assigned (p ∷ ps) [] n = 0
assigned (p ∷ ps) (v ∷ vs) n = elim (name_discrete p n) [ yes e ↦ v | no f ↦ assigned ps vs n ]

-- a level where the names have these values
abbrev pub value_at : List Name → List ℕ → Level → ℕ
value_at ns vs l = level_value (assigned ns vs) l

-- the first levels have these values
abbrev pub AreValues : Contents → List ℕ → List ℕ → Type 0
AreValues d vs values =
    (k : ℕ) → k < length values → slice_index values k ≡ value_at d.names vs (level_at d k)

-- whatever the order stands for, where its names have values
abbrev pub OverOrders : List PlacedLevel → List ℕ → (Contents → Type 0) → Type 0
OverOrders parts vs P = (d : Contents) → IsOrder d parts → length vs ≡ length d.names → P d

abbrev pub relation_test : Relation → ℕ → ℕ → Bool
relation_test Equal x y = nat_eq x y
relation_test AtMost x y = nat_le x y

-- the values of so many names in a case: 1 or 0 by the binary digits of its number, the lowest
-- first
abbrev pub digits : ℕ → ℕ → List ℕ
digits zero case = []
digits (suc n) case = (case % 2) ∷ digits n (case / 2)

-- the relation holds at the least values of a case, and where one parameter is far above all else:
-- each but those of the first k that are 0 in this case
pub record IsTested (relation : Relation) (k : ℕ) (ns : List Name) (l m : Level) (vs : List ℕ)
    : Type 0 where
  pub least : relation_test relation (value_at ns vs l) (value_at ns vs m) ≡ true
  pub far : (p : ℕ) → p < length vs → (p < k → slice_index vs p ≢ 0)
      → relation_test relation (value_at ns (slice_set vs p (suc (value_at ns vs m))) l)
      (value_at ns (slice_set vs p (suc (value_at ns vs m))) m) ≡ true

-- some values at which it does not hold
pub record IsRefuted (relation : Relation) (ns : List Name) (l m : Level) : Type 0 where
  pub values : List ℕ
  pub fails : relation_test relation (value_at ns values l) (value_at ns values m) ≡ false
