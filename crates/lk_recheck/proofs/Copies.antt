-- Units that have the same numbers are in the same stores.
use Rattle.std.proofs.Common.{◌≡◌, ℕ, List, [], ◌∷◌, sym, subst}
use Rattle.std.specs.Prelude.{All}
use Rattle.std.specs.List.{AllZip}
use Rattle.std.proofs.lemmas.List.Elements.{All-nil, All-cons, All-head, All-tail}
use Rattle.lk_store.specs.Contents.{Contents}
use Rattle.lk_env.specs.declared.unit.Constructor.{Constructor}
use Rattle.lk_env.specs.declared.unit.BlockType.{BlockType}
use Rattle.lk_env.specs.declared.unit.RecursorRule.{RecursorRule}
use Rattle.lk_env.specs.declared.unit.Recursor.{Recursor}
use Rattle.lk_env.specs.declared.unit.Unit.{Unit as StoredUnit}
use Rattle.lk_env.specs.declared.unit.Unit.TheVariants as unit
use Rattle.lk_env.specs.Units.{declared_levels, unit_at, library_at, IsBodyIn, IsStatedIn}
use Rattle.lk_env.specs.Units.{IsConstructorIn, IsTypeIn, IsRuleIn, IsRecursorIn, IsUnitIn, AreUnitsIn}
use Rattle.lk_recheck.specs.Same.{SameConstructor, SameType, SameRule}
use Rattle.lk_recheck.specs.Same.{SameRecursor, SameUnit}
use Rattle.lk_recheck.proofs.Lists.{same_made}
use Rattle.lk_recheck.proofs.Units.{unit_made}

-- what R takes from each of a list to each of another
each_same : {X : Type 0} (P : X → Type 0) (R : X → X → Type 0) → ((x y : X) → R x y → P x → P y)
    → (xs ys : List X) → AllZip R xs ys → All P xs → All P ys
each_same P R each [] [] z h = All-nil P
each_same P R each [] (y ∷ ys) z h = absurd z
each_same P R each (x ∷ xs) [] z h = absurd z
each_same P R each (x ∷ xs) (y ∷ ys) z h =
    All-cons P y ys (each x y z.0 (All-head P x xs h))
    (each_same P R each xs ys z.1 (All-tail P x xs h))

pub zip_weaker : {X : Type 0} (R S : X → X → Type 0) (xs ys : List X) → AllZip R xs ys
    → ((x y : X) → R x y → S x y) → AllZip S xs ys
zip_weaker R S [] [] z each = tt
zip_weaker R S [] (y ∷ ys) z each = absurd z
zip_weaker R S (x ∷ xs) [] z each = absurd z
zip_weaker R S (x ∷ xs) (y ∷ ys) z each = (each x y z.0, zip_weaker R S xs ys z.1 each)

module _ (c : Contents) where
  stated_in : (n m : ℕ) (ks ls : List ℕ) (t u : ℕ) → n ≡ m → ks ≡ ls → t ≡ u
      → IsStatedIn c n ks t → IsStatedIn c m ls u
  stated_in n m ks ls t u e f g h =
      subst (λ x. IsStatedIn c x ls u) e (subst (λ x. IsStatedIn c n x u) f (subst (IsStatedIn c n ks) g h))

  constructor_in : (a b : Constructor) → SameConstructor a b → IsConstructorIn c a → IsConstructorIn c b
  constructor_in a b s h = record {
    stated = stated_in a.name b.name a.levels.items b.levels.items a.ty b.ty s.name s.levels s.ty h.stated;
    parent_in = rw (← s.parent) h.parent_in;
  }

  type_in : (a b : BlockType) → SameType a b → IsTypeIn c a → IsTypeIn c b
  type_in a b s h = record {
    stated = stated_in a.name b.name a.levels.items b.levels.items a.ty b.ty s.name s.levels s.ty h.stated;
    constructors_in = each_same (IsConstructorIn c) SameConstructor constructor_in a.constructors.items
        b.constructors.items s.constructors h.constructors_in;
  }

  rule_in : (a b : RecursorRule) → SameRule a b → IsRuleIn c a → IsRuleIn c b
  rule_in a b s h = record {
    constructor_in = rw (← s.constructor) h.constructor_in;
    value_in = rw (← s.value) h.value_in;
  }

  recursor_in : (a b : Recursor) → SameRecursor a b → IsRecursorIn c a → IsRecursorIn c b
  recursor_in a b s h = record {
    stated = stated_in a.name b.name a.levels.items b.levels.items a.ty b.ty s.name s.levels s.ty h.stated;
    rules_in = each_same (IsRuleIn c) SameRule rule_in a.rules.items b.rules.items s.rules h.rules_in;
  }

  unit_in : (a b : StoredUnit) → SameUnit a b → IsUnitIn c a → IsUnitIn c b
  unit_in (unit.Declaration a) (unit.Declaration b) s h = (
    stated_in a.name b.name (declared_levels a) (declared_levels b) a.ty b.ty s.name s.levels s.ty h.0,
    subst (IsBodyIn c) s.body h.1,
  )
  unit_in (unit.Block a) (unit.Block b) s h = (
    each_same (IsTypeIn c) SameType type_in a.types.items b.types.items s.types h.0,
    each_same (IsRecursorIn c) SameRecursor recursor_in a.recursors.value.items
        b.recursors.value.items s.recursors h.1,
  )
  unit_in (unit.Declaration a) (unit.Block b) s h = absurd s
  unit_in (unit.Block a) (unit.Declaration b) s h = absurd s

  -- units that have the same numbers stand for the same
  pub same_units : (us vs : List StoredUnit) → AllZip SameUnit us vs → AreUnitsIn c us
      → AreUnitsIn c vs × (library_at c vs ≡ library_at c us)
  same_units us vs z h =
      let known : AreUnitsIn c vs = each_same (IsUnitIn c) SameUnit unit_in us vs z h in
      (known, sym (same_made (unit_at c) (IsUnitIn c) SameUnit (unit_made c) us vs h known z))
