-- Parts of units have the same numbers just where they stand for the same.
use Rattle.std.proofs.Common.{◌≡◌, ℕ, ◌<◌, List, length, refl, ap, ◌∙◌}
use Rattle.std.specs.Prelude.{All, map}
use Rattle.lk_rulebook.specs.Place.{Ctor, RecRule, BlockRecursor}
use Rattle.lk_rulebook.specs.Place.{BlockType as PlainType}
use Rattle.lk_rulebook.specs.Units.{Decl}
use Rattle.lk_store.specs.Contents.{Contents, name_at, tree_at}
use Rattle.lk_env.specs.declared.unit.Hint.{Hint}
use Rattle.lk_env.specs.declared.unit.Hint.TheVariants as hint
use Rattle.lk_env.specs.declared.unit.Body.{Body}
use Rattle.lk_env.specs.declared.unit.Body.TheVariants.{Axiom, Definition, Theorem, Opaque}
use Rattle.lk_env.specs.declared.unit.Body.TheVariants.{Quotient}
use Rattle.lk_env.specs.declared.unit.Declaration.{Declaration}
use Rattle.lk_env.specs.declared.unit.Constructor.{Constructor}
use Rattle.lk_env.specs.declared.unit.BlockType.{BlockType}
use Rattle.lk_env.specs.declared.unit.RecursorRule.{RecursorRule}
use Rattle.lk_env.specs.declared.unit.Recursor.{Recursor}
use Rattle.lk_env.specs.Units.{hint_of, body_at, declared_levels, declaration_at, constructor_at}
use Rattle.lk_env.specs.Units.{type_at, rule_at, recursor_at, IsBodyIn, IsStatedIn}
use Rattle.lk_env.specs.Units.{IsConstructorIn, IsTypeIn, IsRuleIn, IsRecursorIn}
use Rattle.lk_recheck.specs.Same.{SameDeclaration, SameConstructor, SameType, SameRule}
use Rattle.lk_recheck.specs.Same.{SameRecursor, StandsOnce}
use Rattle.lk_recheck.proofs.Lists.{same_made, made_same, same_numbers}

same_hint : (a b : Hint) → hint_of a ≡ hint_of b → a ≡ b
same_hint hint.Opaque hint.Opaque e = refl
same_hint hint.Opaque hint.Abbreviation e = absurd cc
same_hint hint.Opaque (hint.Regular n) e = absurd cc
same_hint hint.Abbreviation hint.Opaque e = absurd cc
same_hint hint.Abbreviation hint.Abbreviation e = refl
same_hint hint.Abbreviation (hint.Regular n) e = absurd cc
same_hint (hint.Regular m) hint.Opaque e = absurd cc
same_hint (hint.Regular m) hint.Abbreviation e = absurd cc
same_hint (hint.Regular m) (hint.Regular n) e = cc

-- what has the same numbers stands for the same
module _ (c : Contents) where
  pub declaration_made : (a b : Declaration) → SameDeclaration a b
      → declaration_at c a ≡ declaration_at c b
  declaration_made a b s = rw (s.name, s.levels, s.ty, s.body) refl

  constructor_made : (a b : Constructor) → IsConstructorIn c a → IsConstructorIn c b
      → SameConstructor a b → constructor_at c a ≡ constructor_at c b
  constructor_made a b h k s =
      rw (s.name, s.levels, s.ty, s.parent, s.place, s.parameters, s.fields) refl

  with_constructors : (t : BlockType) → List Ctor → PlainType
  with_constructors t ks = record {
    name = name_at c t.name;
    levels = map (name_at c) t.levels.items;
    type = tree_at c t.ty;
    parameters = t.parameters;
    indices = t.indices;
    ctors = ks;
  }

  pub type_made : (a b : BlockType) → IsTypeIn c a → IsTypeIn c b → SameType a b
      → type_at c a ≡ type_at c b
  unfolding with_constructors
  type_made a b h k s =
      let stated : type_at c a
      ≡ with_constructors b (map (constructor_at c) a.constructors.items) =
      rw (s.name, s.levels, s.ty, s.parameters, s.indices) refl in
      stated
      ∙ ap (with_constructors b)
      (same_made (constructor_at c) (IsConstructorIn c) SameConstructor constructor_made
      a.constructors.items b.constructors.items h.constructors_in k.constructors_in
      s.constructors)

  rule_made : (a b : RecursorRule) → IsRuleIn c a → IsRuleIn c b → SameRule a b
      → rule_at c a ≡ rule_at c b
  rule_made a b h k s = rw (s.constructor, s.fields, s.value) refl

  with_rules : (r : Recursor) → List RecRule → BlockRecursor
  with_rules r rules = record {
    name = name_at c r.name;
    levels = map (name_at c) r.levels.items;
    type = tree_at c r.ty;
    recursor = record {
      parameters = r.parameters;
      indices = r.indices;
      motives = r.motives;
      minors = r.minors;
      k = r.k;
      rules = rules;
    };
  }

  pub recursor_made : (a b : Recursor) → IsRecursorIn c a → IsRecursorIn c b
      → SameRecursor a b → recursor_at c a ≡ recursor_at c b
  unfolding with_rules
  recursor_made a b h k s =
      let stated : recursor_at c a ≡ with_rules b (map (rule_at c) a.rules.items) =
      rw (s.name, s.levels, s.ty, s.parameters, s.indices, s.motives, s.minors, s.k) refl in
      stated
      ∙ ap (with_rules b) (same_made (rule_at c) (IsRuleIn c) SameRule rule_made
      a.rules.items b.rules.items h.rules_in k.rules_in s.rules)

-- and the other way round, where names and trees have one number each
module _ (c : Contents) (once : StandsOnce c) where
  same_name : (m n : ℕ) → m < length c.names → n < length c.names
      → name_at c m ≡ name_at c n → m ≡ n
  same_name m n h k e = once.names.apart m n h k e

  same_tree : (v w : ℕ) → v < length c.trees → w < length c.trees
      → tree_at c v ≡ tree_at c w → v ≡ w
  same_tree v w h k e = once.trees.apart v w h k e

  same_levels : (ms ns : List ℕ) → All (λ n. n < length c.names) ms
      → All (λ n. n < length c.names) ns → map (name_at c) ms ≡ map (name_at c) ns → ms ≡ ns
  same_levels ms ns h k e =
      same_numbers (name_at c) (λ n. n < length c.names) same_name ms ns h k e

  same_body : (a b : Body) → IsBodyIn c a → IsBodyIn c b → body_at c a ≡ body_at c b → a ≡ b
  same_body Axiom Axiom h k e = refl
  same_body Axiom (Definition g w) h k e = absurd cc
  same_body Axiom (Theorem w) h k e = absurd cc
  same_body Axiom (Opaque w) h k e = absurd cc
  same_body Axiom Quotient h k e = absurd cc
  same_body (Definition f v) Axiom h k e = absurd cc
  same_body (Definition f v) (Definition g w) h k e =
      let hints : hint_of f ≡ hint_of g = cc in
      let trees : tree_at c v ≡ tree_at c w = cc in
      let hint_is : f ≡ g = same_hint f g hints in
      let value_is : v ≡ w = same_tree v w h k trees in
      cc
  same_body (Definition f v) (Theorem w) h k e = absurd cc
  same_body (Definition f v) (Opaque w) h k e = absurd cc
  same_body (Definition f v) Quotient h k e = absurd cc
  same_body (Theorem v) Axiom h k e = absurd cc
  same_body (Theorem v) (Definition g w) h k e = absurd cc
  same_body (Theorem v) (Theorem w) h k e =
      let trees : tree_at c v ≡ tree_at c w = cc in
      ap Theorem (same_tree v w h k trees)
  same_body (Theorem v) (Opaque w) h k e = absurd cc
  same_body (Theorem v) Quotient h k e = absurd cc
  same_body (Opaque v) Axiom h k e = absurd cc
  same_body (Opaque v) (Definition g w) h k e = absurd cc
  same_body (Opaque v) (Theorem w) h k e = absurd cc
  same_body (Opaque v) (Opaque w) h k e =
      let trees : tree_at c v ≡ tree_at c w = cc in
      ap Opaque (same_tree v w h k trees)
  same_body (Opaque v) Quotient h k e = absurd cc
  same_body Quotient Axiom h k e = absurd cc
  same_body Quotient (Definition g w) h k e = absurd cc
  same_body Quotient (Theorem w) h k e = absurd cc
  same_body Quotient (Opaque w) h k e = absurd cc
  same_body Quotient Quotient h k e = refl

  pub made_declaration : (a b : Declaration)
      → IsStatedIn c a.name (declared_levels a) a.ty × IsBodyIn c a.body
      → IsStatedIn c b.name (declared_levels b) b.ty × IsBodyIn c b.body
      → declaration_at c a ≡ declaration_at c b → SameDeclaration a b
  made_declaration a b h k e = record {
    name = same_name a.name b.name h.0.name_in k.0.name_in (ap (λ (d : Decl). d.name) e);
    levels = same_levels (declared_levels a) (declared_levels b) h.0.levels_in k.0.levels_in
        (ap (λ (d : Decl). d.levels) e);
    ty = same_tree a.ty b.ty h.0.ty_in k.0.ty_in (ap (λ (d : Decl). d.type) e);
    body = same_body a.body b.body h.1 k.1 (ap (λ (d : Decl). d.body) e);
  }

  made_constructor : (a b : Constructor) → IsConstructorIn c a → IsConstructorIn c b
      → constructor_at c a ≡ constructor_at c b → SameConstructor a b
  made_constructor a b h k e = record {
    name = same_name a.name b.name h.stated.name_in k.stated.name_in
        (ap (λ (x : Ctor). x.name) e);
    levels = same_levels a.levels.items b.levels.items h.stated.levels_in k.stated.levels_in
        (ap (λ (x : Ctor). x.levels) e);
    ty = same_tree a.ty b.ty h.stated.ty_in k.stated.ty_in (ap (λ (x : Ctor). x.type) e);
    parent = same_name a.parent b.parent h.parent_in k.parent_in
        (ap (λ (x : Ctor). x.parent) e);
    place = ap (λ (x : Ctor). x.place) e;
    parameters = ap (λ (x : Ctor). x.parameters) e;
    fields = ap (λ (x : Ctor). x.fields) e;
  }

  pub made_type : (a b : BlockType) → IsTypeIn c a → IsTypeIn c b
      → type_at c a ≡ type_at c b → SameType a b
  made_type a b h k e = record {
    name = same_name a.name b.name h.stated.name_in k.stated.name_in
        (ap (λ (x : PlainType). x.name) e);
    levels = same_levels a.levels.items b.levels.items h.stated.levels_in k.stated.levels_in
        (ap (λ (x : PlainType). x.levels) e);
    ty = same_tree a.ty b.ty h.stated.ty_in k.stated.ty_in (ap (λ (x : PlainType). x.type) e);
    parameters = ap (λ (x : PlainType). x.parameters) e;
    indices = ap (λ (x : PlainType). x.indices) e;
    constructors = made_same (constructor_at c) (IsConstructorIn c) SameConstructor
        made_constructor a.constructors.items b.constructors.items h.constructors_in
        k.constructors_in (ap (λ (x : PlainType). x.ctors) e);
  }

  made_rule : (a b : RecursorRule) → IsRuleIn c a → IsRuleIn c b
      → rule_at c a ≡ rule_at c b → SameRule a b
  made_rule a b h k e = record {
    constructor = same_name a.constructor b.constructor h.constructor_in k.constructor_in
        (ap (λ (x : RecRule). x.ctor) e);
    fields = ap (λ (x : RecRule). x.fields) e;
    value = same_tree a.value b.value h.value_in k.value_in (ap (λ (x : RecRule). x.value) e);
  }

  pub made_recursor : (a b : Recursor) → IsRecursorIn c a → IsRecursorIn c b
      → recursor_at c a ≡ recursor_at c b → SameRecursor a b
  made_recursor a b h k e = record {
    name = same_name a.name b.name h.stated.name_in k.stated.name_in
        (ap (λ (x : BlockRecursor). x.name) e);
    levels = same_levels a.levels.items b.levels.items h.stated.levels_in k.stated.levels_in
        (ap (λ (x : BlockRecursor). x.levels) e);
    ty = same_tree a.ty b.ty h.stated.ty_in k.stated.ty_in
        (ap (λ (x : BlockRecursor). x.type) e);
    parameters = ap (λ (x : BlockRecursor). x.recursor.parameters) e;
    indices = ap (λ (x : BlockRecursor). x.recursor.indices) e;
    motives = ap (λ (x : BlockRecursor). x.recursor.motives) e;
    minors = ap (λ (x : BlockRecursor). x.recursor.minors) e;
    k = ap (λ (x : BlockRecursor). x.recursor.k) e;
    rules = made_same (rule_at c) (IsRuleIn c) SameRule made_rule a.rules.items b.rules.items
        h.rules_in k.rules_in (ap (λ (x : BlockRecursor). x.recursor.rules) e);
  }
