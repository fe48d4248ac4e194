-- The trees of a unit, by their numbers, under any test of a tree with its member's level parameters.
use Rattle.std.proofs.Common.{◌≡◌, ℕ, ◌+◌, ◌<◌, Bool, true, false, ◌&&◌, List, [], ◌∷◌, ◌++◌, length, map, take, get_or, Option, refl, ap, sym, ◌∙◌}
use Rattle.std.specs.List.{list_all}
use Rattle.std.proofs.lemmas.List.{map-append, take_more}
use Rattle.std.proofs.lemmas.List.Folds.{list_all-append}
use Rattle.lk_tree.specs.Tree.{Name, Tree}
use Rattle.lk_tree.specs.Scan.{is_bound, is_narrow}
use Rattle.lk_rulebook.specs.Units.{Trees, type_trees, ctor_trees, all_ctor_trees, rule_trees, rec_trees, trees_of, all_bound, all_narrow, flaw_of}
use Rattle.lk_store.specs.Contents.{Contents, name_at, tree_at}
use Rattle.lk_env.specs.declared.unit.Constructor.{Constructor}
use Rattle.lk_env.specs.declared.unit.BlockType.{BlockType}
use Rattle.lk_env.specs.declared.unit.RecursorRule.{RecursorRule}
use Rattle.lk_env.specs.declared.unit.Recursor.{Recursor}
use Rattle.lk_env.specs.declared.unit.Block.{Block}
use Rattle.lk_env.specs.declared.unit.Unit.{Unit as StoredUnit}
use Rattle.lk_env.specs.declared.unit.Unit.TheVariants as unit
use Rattle.lk_tree.specs.declared.rule.Rule.{Rule}
use Rattle.lk_env.specs.declared.scan.Test.{Test}
use Rattle.lk_env.specs.declared.scan.Test.TheVariants.{Closed, Narrow}
use Rattle.lk_env.specs.Units.{constructor_at, type_at, rule_at, recursor_at, unit_at, library_at}
use Rattle.lk_env.specs.Scan.{passes, AreFlaws}

-- each tree passes a test of trees with the level parameters that they may have
abbrev pub all_meet : (List Name × Tree → Bool) → Trees → Bool
all_meet p es = list_all p es

-- a test that asks nothing of the parameters
abbrev pub without_levels : Test → List Name × Tree → Bool
without_levels test e = passes test e.1

pub closed_pass : (es : Trees) → all_bound es ≡ all_meet (without_levels Closed) es
closed_pass [] = refl
closed_pass (e ∷ es) = ap (λ b. is_bound 0 e.1 && b) (closed_pass es)

pub narrow_pass : (es : Trees) → all_narrow es ≡ all_meet (without_levels Narrow) es
narrow_pass [] = refl
narrow_pass (e ∷ es) = ap (λ b. is_narrow e.1 && b) (narrow_pass es)

module _ (c : Contents) (p : List Name × Tree → Bool) where
  abbrev pub type_meets : BlockType → Bool
  type_meets t = p (map (name_at c) t.levels.items, tree_at c t.ty)

  abbrev pub ctor_meets : Constructor → Bool
  ctor_meets k = p (map (name_at c) k.levels.items, tree_at c k.ty)

  abbrev pub ctors_meet : BlockType → Bool
  ctors_meet t = list_all ctor_meets t.constructors.items

  abbrev pub rule_meets : List ℕ → RecursorRule → Bool
  rule_meets ls r = p (map (name_at c) ls, tree_at c r.value)

  -- a recursor's type and the right sides of its rules
  abbrev pub rec_meets : Recursor → Bool
  rec_meets r = p (map (name_at c) r.levels.items, tree_at c r.ty) && list_all (rule_meets r.levels.items) r.rules.items

  types_are : (ts : List BlockType) → all_meet p (type_trees (map (type_at c) ts)) ≡ list_all type_meets ts
  types_are [] = refl
  types_are (t ∷ ts) = ap (λ b. type_meets t && b) (types_are ts)

  ctors_are : (ks : List Constructor) → all_meet p (ctor_trees (map (constructor_at c) ks)) ≡ list_all ctor_meets ks
  ctors_are [] = refl
  ctors_are (k ∷ ks) = ap (λ b. ctor_meets k && b) (ctors_are ks)

  both : (xs ys : Trees) (a b : Bool) → all_meet p xs ≡ a → all_meet p ys ≡ b → all_meet p (xs ++ ys) ≡ (a && b)
  both xs ys a b e f = list_all-append p xs ys ∙ ap (λ x. x && all_meet p ys) e ∙ ap (λ y. a && y) f

  all_ctors_are : (ts : List BlockType) → all_meet p (all_ctor_trees (map (type_at c) ts)) ≡ list_all ctors_meet ts
  all_ctors_are [] = refl
  all_ctors_are (t ∷ ts) =
      both (ctor_trees (map (constructor_at c) t.constructors.items)) (all_ctor_trees (map (type_at c) ts)) (ctors_meet t) (list_all ctors_meet ts)
      (ctors_are t.constructors.items) (all_ctors_are ts)

  rules_are : (ls : List ℕ) (rs : List RecursorRule) → all_meet p (rule_trees (map (name_at c) ls) (map (rule_at c) rs)) ≡ list_all (rule_meets ls) rs
  rules_are ls [] = refl
  rules_are ls (r ∷ rs) = ap (λ b. rule_meets ls r && b) (rules_are ls rs)

  assoc : (x y z : Bool) → (x && (y && z)) ≡ ((x && y) && z)
  assoc true y z = refl
  assoc false y z = refl

  recs_are : (rs : List Recursor) → all_meet p (rec_trees (map (recursor_at c) rs)) ≡ list_all rec_meets rs
  recs_are [] = refl
  recs_are (r ∷ rs) =
      let ty = p (map (name_at c) r.levels.items, tree_at c r.ty) in
      let rules = list_all (rule_meets r.levels.items) r.rules.items in
      ap (λ b. ty && b)
      (both (rule_trees (map (name_at c) r.levels.items) (map (rule_at c) r.rules.items)) (rec_trees (map (recursor_at c) rs)) rules (list_all rec_meets rs)
      (rules_are r.levels.items r.rules.items) (recs_are rs))
      ∙ assoc ty rules (list_all rec_meets rs)

  -- a block's trees pass where the types, the constructors and the recursors do
  pub block_is : (b : Block) → all_meet p (trees_of (unit_at c (unit.Block b)))
      ≡ (list_all type_meets b.types.items && (list_all ctors_meet b.types.items && list_all rec_meets b.recursors.value.items))
  block_is b =
      let ts = map (type_at c) b.types.items in
      let rs = map (recursor_at c) b.recursors.value.items in
      both (type_trees ts) (all_ctor_trees ts ++ rec_trees rs) (list_all type_meets b.types.items) (list_all ctors_meet b.types.items && list_all rec_meets b.recursors.value.items)
      (types_are b.types.items)
      (both (all_ctor_trees ts) (rec_trees rs) (list_all ctors_meet b.types.items) (list_all rec_meets b.recursors.value.items) (all_ctors_are b.types.items) (recs_are b.recursors.value.items))

  module _ (b : Block) where
    pub no_types : (x : Bool) → x ≡ list_all type_meets b.types.items → x ≡ false → false ≡ all_meet p (trees_of (unit_at c (unit.Block b)))
    no_types x e h =
        let types : list_all type_meets b.types.items ≡ false = sym e ∙ h in
        sym (block_is b ∙ ap (λ v. v && (list_all ctors_meet b.types.items && list_all rec_meets b.recursors.value.items)) types)

    pub no_constructors : (x y : Bool) → x ≡ list_all type_meets b.types.items → y ≡ list_all ctors_meet b.types.items → x ≡ true → y ≡ false
        → false ≡ all_meet p (trees_of (unit_at c (unit.Block b)))
    no_constructors x y e f h k =
        let types : list_all type_meets b.types.items ≡ true = sym e ∙ h in
        let ctors : list_all ctors_meet b.types.items ≡ false = sym f ∙ k in
        sym (block_is b ∙ ap (λ v. v && (list_all ctors_meet b.types.items && list_all rec_meets b.recursors.value.items)) types
        ∙ ap (λ v. v && list_all rec_meets b.recursors.value.items) ctors)

    pub recursors_alone : (x y z : Bool) → x ≡ list_all type_meets b.types.items → y ≡ list_all ctors_meet b.types.items → z ≡ list_all rec_meets b.recursors.value.items
        → x ≡ true → y ≡ true → z ≡ all_meet p (trees_of (unit_at c (unit.Block b)))
    recursors_alone x y z e f g h k =
        let types : list_all type_meets b.types.items ≡ true = sym e ∙ h in
        let ctors : list_all ctors_meet b.types.items ≡ true = sym f ∙ k in
        g ∙ sym (block_is b ∙ ap (λ v. v && (list_all ctors_meet b.types.items && list_all rec_meets b.recursors.value.items)) types
        ∙ ap (λ v. v && list_all rec_meets b.recursors.value.items) ctors)

-- one more unit
pub next_flaw : (c : Contents) (us : List StoredUnit) (i : ℕ) (u : StoredUnit) (flaws : List (Option Rule)) (f : Option Rule) → i < length us → u ≡ get_or us i u
    → AreFlaws c (take i us) flaws → f ≡ flaw_of (unit_at c u) → AreFlaws c (take (i + 1) us) (flaws ++ f ∷ [])
next_flaw c us i u flaws f l is so_far here =
    ap (λ l. l ++ f ∷ []) so_far
    ∙ ap (λ x. map flaw_of (library_at c (take i us)) ++ x ∷ []) (here ∙ ap (λ v. flaw_of (unit_at c v)) is)
    ∙ sym (ap (map flaw_of) (ap (map (unit_at c)) (take_more us i u l) ∙ map-append (unit_at c) (take i us) (get_or us i u ∷ [])) ∙ map-append flaw_of (library_at c (take i us)) (unit_at c (get_or us i u) ∷ []))
