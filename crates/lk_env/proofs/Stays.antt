-- Members of a block, and units, stand for what they stood for, once a store has grown.
use Rattle.std.proofs.Common.{◌≡◌, ◌<◌, ℕ, List, [], ◌∷◌, length, map, All, refl, ap, arith}
use Rattle.std.proofs.lemmas.List.Elements.{All-weaker, All-head, All-tail}
use Rattle.lk_store.specs.Contents.{Contents, name_at, Extends}
use Rattle.lk_env.specs.declared.unit.Constructor.{Constructor}
use Rattle.lk_env.specs.declared.unit.BlockType.{BlockType}
use Rattle.lk_env.specs.declared.unit.RecursorRule.{RecursorRule}
use Rattle.lk_env.specs.declared.unit.Recursor.{Recursor}
use Rattle.lk_rulebook.specs.Units.{as_def, as_thm, as_opaque}
use Rattle.lk_env.specs.declared.unit.Body.{Body}
use Rattle.lk_env.specs.declared.unit.Body.TheVariants.{Axiom, Definition, Theorem, Opaque, Quotient}
use Rattle.lk_env.specs.declared.unit.Unit.{Unit as StoredUnit}
use Rattle.lk_env.specs.declared.unit.Unit.TheVariants as unit
use Rattle.lk_env.specs.Units.{declared_levels, hint_of, body_at, constructor_at, type_at, rule_at, recursor_at, unit_at, library_at, IsBodyIn, IsStatedIn, IsConstructorIn, IsTypeIn, IsRuleIn, IsRecursorIn, IsUnitIn, AreUnitsIn}

-- a list of things each of which stays
pub all_stay : {X Y : Type 0} (P : X → Type 0) (f g : X → Y) → ((x : X) → P x → f x ≡ g x) → (xs : List X) → All P xs → map f xs ≡ map g xs
all_stay P f g h [] known = refl
all_stay P f g h (x ∷ xs) known = rw (h x (All-head P x xs known), all_stay P f g h xs (All-tail P x xs known)) refl

module _ (c d : Contents) (x : Extends c d) where
  pub names_stay : (ns : List ℕ) → All (λ n. n < length c.names) ns → map (name_at d) ns ≡ map (name_at c) ns
  names_stay = all_stay (λ n. n < length c.names) (name_at d) (name_at c) (λ n h. x.names.same n h)

  pub names_in_stay : (ns : List ℕ) → All (λ n. n < length c.names) ns → All (λ n. n < length d.names) ns
  names_in_stay = All-weaker (λ n. n < length c.names) (λ n. n < length d.names) (λ n small. let longer = x.names.longer in omega arith)

  stated_stays : (name : ℕ) (levels : List ℕ) (ty : ℕ) → IsStatedIn c name levels ty → IsStatedIn d name levels ty
  stated_stays name levels ty h = record {
    name_in = let small = h.name_in in let longer = x.names.longer in omega arith;
    levels_in = names_in_stay levels h.levels_in;
    ty_in = let small = h.ty_in in let longer = x.trees.longer in omega arith;
  }

  pub constructor_stays : (k : Constructor) → IsConstructorIn c k → constructor_at d k ≡ constructor_at c k
  constructor_stays k h =
      rw (x.names.same k.name h.stated.name_in, names_stay k.levels.items h.stated.levels_in, x.trees.same k.ty h.stated.ty_in, x.names.same k.parent h.parent_in) refl

  constructor_in_stays : (k : Constructor) → IsConstructorIn c k → IsConstructorIn d k
  constructor_in_stays k h = record {
    stated = stated_stays k.name k.levels.items k.ty h.stated;
    parent_in = let small = h.parent_in in let longer = x.names.longer in omega arith;
  }

  pub constructors_stay : (ks : List Constructor) → All (IsConstructorIn c) ks → map (constructor_at d) ks ≡ map (constructor_at c) ks
  constructors_stay = all_stay (IsConstructorIn c) (constructor_at d) (constructor_at c) constructor_stays

  pub type_stays : (t : BlockType) → IsTypeIn c t → type_at d t ≡ type_at c t
  type_stays t h =
      rw (x.names.same t.name h.stated.name_in, names_stay t.levels.items h.stated.levels_in, x.trees.same t.ty h.stated.ty_in, constructors_stay t.constructors.items h.constructors_in) refl

  pub type_in_stays : (t : BlockType) → IsTypeIn c t → IsTypeIn d t
  type_in_stays t h = record {
    stated = stated_stays t.name t.levels.items t.ty h.stated;
    constructors_in = All-weaker (IsConstructorIn c) (IsConstructorIn d) constructor_in_stays t.constructors.items h.constructors_in;
  }

  pub types_stay : (ts : List BlockType) → All (IsTypeIn c) ts → map (type_at d) ts ≡ map (type_at c) ts
  types_stay = all_stay (IsTypeIn c) (type_at d) (type_at c) type_stays

  pub types_in_stay : (ts : List BlockType) → All (IsTypeIn c) ts → All (IsTypeIn d) ts
  types_in_stay ts h = All-weaker (IsTypeIn c) (IsTypeIn d) type_in_stays ts h

  rule_stays : (r : RecursorRule) → IsRuleIn c r → rule_at d r ≡ rule_at c r
  rule_stays r h = rw (x.names.same r.constructor h.constructor_in, x.trees.same r.value h.value_in) refl

  rule_in_stays : (r : RecursorRule) → IsRuleIn c r → IsRuleIn d r
  rule_in_stays r h = record {
    constructor_in = let small = h.constructor_in in let longer = x.names.longer in omega arith;
    value_in = let small = h.value_in in let longer = x.trees.longer in omega arith;
  }

  pub recursor_stays : (r : Recursor) → IsRecursorIn c r → recursor_at d r ≡ recursor_at c r
  recursor_stays r h =
      rw (x.names.same r.name h.stated.name_in, names_stay r.levels.items h.stated.levels_in, x.trees.same r.ty h.stated.ty_in, all_stay (IsRuleIn c) (rule_at d) (rule_at c) rule_stays r.rules.items h.rules_in) refl

  pub recursor_in_stays : (r : Recursor) → IsRecursorIn c r → IsRecursorIn d r
  recursor_in_stays r h = record {
    stated = stated_stays r.name r.levels.items r.ty h.stated;
    rules_in = All-weaker (IsRuleIn c) (IsRuleIn d) rule_in_stays r.rules.items h.rules_in;
  }

  pub recursors_stay : (rs : List Recursor) → All (IsRecursorIn c) rs → map (recursor_at d) rs ≡ map (recursor_at c) rs
  recursors_stay = all_stay (IsRecursorIn c) (recursor_at d) (recursor_at c) recursor_stays

  pub recursors_in_stay : (rs : List Recursor) → All (IsRecursorIn c) rs → All (IsRecursorIn d) rs
  recursors_in_stay rs h = All-weaker (IsRecursorIn c) (IsRecursorIn d) recursor_in_stays rs h

-- units
module _ (c d : Contents) (x : Extends c d) where
  pub body_stays : (b : Body) → IsBodyIn c b → body_at d b ≡ body_at c b
  body_stays Axiom h = refl
  body_stays (Definition hint v) h = ap (as_def (hint_of hint)) (x.trees.same v h)
  body_stays (Theorem v) h = ap as_thm (x.trees.same v h)
  body_stays (Opaque v) h = ap as_opaque (x.trees.same v h)
  body_stays Quotient h = refl

  pub unit_stays : (u : StoredUnit) → IsUnitIn c u → unit_at d u ≡ unit_at c u
  unit_stays (unit.Declaration a) h =
      rw (x.names.same a.name h.0.name_in, names_stay c d x (declared_levels a) h.0.levels_in, x.trees.same a.ty h.0.ty_in, body_stays a.body h.1) refl
  unit_stays (unit.Block b) h = rw (types_stay c d x b.types.items h.0, recursors_stay c d x b.recursors.value.items h.1) refl

  body_in_stays : (b : Body) → IsBodyIn c b → IsBodyIn d b
  body_in_stays Axiom h = tt
  body_in_stays (Definition hint v) h = let longer = x.trees.longer in omega (arith, h)
  body_in_stays (Theorem v) h = let longer = x.trees.longer in omega (arith, h)
  body_in_stays (Opaque v) h = let longer = x.trees.longer in omega (arith, h)
  body_in_stays Quotient h = tt

  unit_in_stays : (u : StoredUnit) → IsUnitIn c u → IsUnitIn d u
  unit_in_stays (unit.Declaration a) h = (stated_stays c d x a.name (declared_levels a) a.ty h.0, body_in_stays a.body h.1)
  unit_in_stays (unit.Block b) h = (types_in_stay c d x b.types.items h.0, recursors_in_stay c d x b.recursors.value.items h.1)

  pub units_in_stay : (us : List StoredUnit) → AreUnitsIn c us → AreUnitsIn d us
  units_in_stay us h = All-weaker (IsUnitIn c) (IsUnitIn d) unit_in_stays us h

  pub library_stays : (us : List StoredUnit) → AreUnitsIn c us → library_at d us ≡ library_at c us
  library_stays = all_stay (IsUnitIn c) (unit_at d) (unit_at c) unit_stays
