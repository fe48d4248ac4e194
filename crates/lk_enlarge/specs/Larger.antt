-- The larger block by the numbers of a store, and whether there is one.
use Rattle.std.specs.Prelude.{Bool, false, List, [], ◌∷◌, map, All, Option, Some, None}
use Rattle.lk_tree.specs.Tree.{Name}
use Rattle.lk_rulebook.specs.Place.{Place, Ctor, BlockType as PlainType}
use Rattle.lk_env.specs.Units.{type_at, IsTypeIn}
use Rattle.lk_inductive.specs.Enlarged.{Larger as PlainLarger}
use Rattle.lk_nested.specs.Findings.{Finding, found, then_held}
use Rattle.lk_nested.specs.Nestings.{nested_in}
use Rattle.lk_store.specs.Contents.{Contents}
use Rattle.lk_enlarge.specs.declared.larger.Larger.{Larger}
use Rattle.lk_auxiliary.specs.Auxiliaries.{auxs_at, IsAuxiliaryIn}

abbrev pub larger_at : Contents → Larger → PlainLarger
larger_at c l = record { own = map (type_at c) l.own.items; aux = map (type_at c) l.auxiliary.items; auxs = auxs_at c l.stand.items }

-- without occurrences the block itself
abbrev pub larger_or : Contents → List PlainType → Option Larger → PlainLarger
larger_or c ts None = record { own = ts; aux = []; auxs = [] }
larger_or c ts (Some l) = larger_at c l

pub record IsLargerIn (c : Contents) (l : Larger) : Type 0 where
  pub own_in : All (IsTypeIn c) l.own.items
  pub auxiliary_in : All (IsTypeIn c) l.auxiliary.items
  pub stand_in : All (IsAuxiliaryIn c) l.stand.items

-- whether one of them holds an occurrence, the first that does
abbrev pub any_hold : {X : Type 0} → (X → Finding Bool) → List X → Finding Bool
any_hold h [] = found false
any_hold h (x ∷ xs) = then_held (h x) (any_hold h xs)

abbrev pub ctors_hold : Place → List Name → List Ctor → Finding Bool
ctors_hold w ns cs = any_hold (λ c. nested_in w ns c.type) cs

abbrev pub types_hold : Place → List Name → List PlainType → Finding Bool
types_hold w ns ts = any_hold (λ t. ctors_hold w ns t.ctors) ts
