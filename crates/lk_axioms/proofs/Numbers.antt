-- The numbers of a unit's trees are those of the trees that it states.
use Rattle.std.proofs.Common.{ℕ, ◌≡◌, ◌+◌, ◌<◌, inl, inr, true, List, [], ◌∷◌, ◌++◌, map, take, length, get_or, append_assoc, refl, sym, ap, ◌∙◌, arith}
use Rattle.std.specs.Prelude.{All}
use Rattle.std.specs.List.{Contains, flat_map}
use Rattle.std.proofs.lemmas.List.{map-append}
use Rattle.std.proofs.lemmas.List.Elements.{All-nil, All-cons, All-head, All-tail, All-append, All-map, All-weaker}
use Rattle.lk_tree.specs.Tree.{Name, Tree}
use Rattle.lk_tree.specs.Mentions.{mentions}
use Rattle.lk_rulebook.specs.Units.{Trees, trees_of, body_trees, type_trees, ctor_trees, all_ctor_trees, rule_trees, rec_trees}
use Rattle.lk_reach.specs.Reach.{TreesMention}
use Rattle.lk_reach.proofs.Lists.{contains_cases, contains_later}
use Rattle.lk_store.specs.Contents.{Contents, name_at, tree_at}
use Rattle.lk_env.specs.declared.unit.Body.{Body}
use Rattle.lk_env.specs.declared.unit.Body.TheVariants.{Axiom, Definition, Theorem, Opaque, Quotient}
use Rattle.lk_env.specs.declared.unit.Constructor.{Constructor}
use Rattle.lk_env.specs.declared.unit.BlockType.{BlockType}
use Rattle.lk_env.specs.declared.unit.RecursorRule.{RecursorRule}
use Rattle.lk_env.specs.declared.unit.Recursor.{Recursor}
use Rattle.lk_env.specs.declared.unit.Unit.{Unit as StoredUnit}
use Rattle.lk_env.specs.declared.unit.Unit.TheVariants as unit
use Rattle.lk_env.specs.Units.{declared_levels, body_at, constructor_at, type_at, rule_at, recursor_at, unit_at, IsBodyIn, IsConstructorIn, IsTypeIn, IsRuleIn, IsRecursorIn, IsUnitIn}
use Rattle.lk_env.proofs.Members.{flat_map_more}
use Rattle.lk_axioms.specs.Stated.{body_numbers, constructor_numbers, recursor_numbers, stated_numbers}

pub one_list_more : {X : Type 0} (f : X → List ℕ) (start trees after : List ℕ) (xs : List X) (i : ℕ) (x : X) → i < length xs → x ≡ get_or xs i x
    → trees ≡ start ++ flat_map f (take i xs) → after ≡ trees ++ f x → after ≡ start ++ flat_map f (take (i + 1) xs)
one_list_more f start trees after xs i x l is so_far pushed =
    pushed ∙ ap (λ ns. ns ++ f x) so_far ∙ append_assoc start (flat_map f (take i xs)) (f x)
    ∙ ap (λ ns. start ++ ns) (ap (λ y. flat_map f (take i xs) ++ f y) is ∙ sym (flat_map_more f xs i x l))

-- the trees themselves
abbrev pub plain : Trees → List Tree
plain es = map (λ (e : List Name × Tree). e.1) es

module _ (c : Contents) where
  joined : (ms ns : List ℕ) (xs ys : Trees) → map (tree_at c) ms ≡ plain xs → map (tree_at c) ns ≡ plain ys → map (tree_at c) (ms ++ ns) ≡ plain (xs ++ ys)
  joined ms ns xs ys e f = map-append (tree_at c) ms ns ∙ ap (λ l. l ++ map (tree_at c) ns) e ∙ ap (λ l. plain xs ++ l) f ∙ sym (map-append (λ (e : List Name × Tree). e.1) xs ys)

  types_are : (ts : List BlockType) → map (tree_at c) (map (λ (t : BlockType). t.ty) ts) ≡ plain (type_trees (map (type_at c) ts))
  types_are [] = refl
  types_are (t ∷ ts) = ap (λ es. tree_at c t.ty ∷ es) (types_are ts)

  ctors_are : (ks : List Constructor) → map (tree_at c) (map (λ (k : Constructor). k.ty) ks) ≡ plain (ctor_trees (map (constructor_at c) ks))
  ctors_are [] = refl
  ctors_are (k ∷ ks) = ap (λ es. tree_at c k.ty ∷ es) (ctors_are ks)

  all_ctors_are : (ts : List BlockType) → map (tree_at c) (flat_map constructor_numbers ts) ≡ plain (all_ctor_trees (map (type_at c) ts))
  all_ctors_are [] = refl
  all_ctors_are (t ∷ ts) = joined (constructor_numbers t) (flat_map constructor_numbers ts) (ctor_trees (map (constructor_at c) t.constructors.items)) (all_ctor_trees (map (type_at c) ts)) (ctors_are t.constructors.items) (all_ctors_are ts)

  rules_are : (ps : List Name) (rs : List RecursorRule) → map (tree_at c) (map (λ (x : RecursorRule). x.value) rs) ≡ plain (rule_trees ps (map (rule_at c) rs))
  rules_are ps [] = refl
  rules_are ps (r ∷ rs) = ap (λ es. tree_at c r.value ∷ es) (rules_are ps rs)

  recursors_are : (rs : List Recursor) → map (tree_at c) (flat_map recursor_numbers rs) ≡ plain (rec_trees (map (recursor_at c) rs))
  recursors_are [] = refl
  recursors_are (r ∷ rs) =
      ap (λ es. tree_at c r.ty ∷ es)
      (joined (map (λ (x : RecursorRule). x.value) r.rules.items) (flat_map recursor_numbers rs) (rule_trees (map (name_at c) r.levels.items) (map (rule_at c) r.rules.items)) (rec_trees (map (recursor_at c) rs))
      (rules_are (map (name_at c) r.levels.items) r.rules.items) (recursors_are rs))

  body_is : (ps : List Name) (b : Body) → map (tree_at c) (body_numbers b) ≡ plain (body_trees ps (body_at c b))
  body_is ps Axiom = refl
  body_is ps (Definition h v) = refl
  body_is ps (Theorem v) = refl
  body_is ps (Opaque v) = refl
  body_is ps Quotient = refl

  pub stated_are : (u : StoredUnit) → map (tree_at c) (stated_numbers u) ≡ plain (trees_of (unit_at c u))
  stated_are (unit.Declaration d) = ap (λ es. tree_at c d.ty ∷ es) (body_is (map (name_at c) (declared_levels d)) d.body)
  stated_are (unit.Block b) =
      joined (map (λ (t : BlockType). t.ty) b.types.items) (flat_map constructor_numbers b.types.items ++ flat_map recursor_numbers b.recursors.value.items)
      (type_trees (map (type_at c) b.types.items)) (all_ctor_trees (map (type_at c) b.types.items) ++ rec_trees (map (recursor_at c) b.recursors.value.items)) (types_are b.types.items)
      (joined (flat_map constructor_numbers b.types.items) (flat_map recursor_numbers b.recursors.value.items) (all_ctor_trees (map (type_at c) b.types.items)) (rec_trees (map (recursor_at c) b.recursors.value.items))
      (all_ctors_are b.types.items) (recursors_are b.recursors.value.items))

  -- They are numbers of the store.
  abbrev pub IsTree : ℕ → Type 0
  IsTree e = e < length c.trees

  all_ctors_in : (ts : List BlockType) → All (IsTypeIn c) ts → All IsTree (flat_map constructor_numbers ts)
  all_ctors_in [] h = All-nil IsTree
  all_ctors_in (t ∷ ts) h =
      let first : IsTypeIn c t = All-head (IsTypeIn c) t ts h in
      All-append IsTree (constructor_numbers t) (flat_map constructor_numbers ts)
      (All-map IsTree (λ (k : Constructor). k.ty) t.constructors.items
      (All-weaker (IsConstructorIn c) (λ (k : Constructor). IsTree k.ty) (λ k s. s.stated.ty_in) t.constructors.items first.constructors_in))
      (all_ctors_in ts (All-tail (IsTypeIn c) t ts h))

  recursors_in : (rs : List Recursor) → All (IsRecursorIn c) rs → All IsTree (flat_map recursor_numbers rs)
  recursors_in [] h = All-nil IsTree
  recursors_in (r ∷ rs) h =
      let first : IsRecursorIn c r = All-head (IsRecursorIn c) r rs h in
      All-append IsTree (recursor_numbers r) (flat_map recursor_numbers rs)
      (All-cons IsTree r.ty (map (λ (x : RecursorRule). x.value) r.rules.items) first.stated.ty_in
      (All-map IsTree (λ (x : RecursorRule). x.value) r.rules.items (All-weaker (IsRuleIn c) (λ (x : RecursorRule). IsTree x.value) (λ x s. s.value_in) r.rules.items first.rules_in)))
      (recursors_in rs (All-tail (IsRecursorIn c) r rs h))

  body_in : (b : Body) → IsBodyIn c b → All IsTree (body_numbers b)
  body_in Axiom h = All-nil IsTree
  body_in (Definition i v) h = All-cons IsTree v [] h (All-nil IsTree)
  body_in (Theorem v) h = All-cons IsTree v [] h (All-nil IsTree)
  body_in (Opaque v) h = All-cons IsTree v [] h (All-nil IsTree)
  body_in Quotient h = All-nil IsTree

  pub stated_in : (u : StoredUnit) → IsUnitIn c u → All IsTree (stated_numbers u)
  stated_in (unit.Declaration d) h = All-cons IsTree d.ty (body_numbers d.body) h.0.ty_in (body_in d.body h.1)
  stated_in (unit.Block b) h =
      All-append IsTree (map (λ (t : BlockType). t.ty) b.types.items) (flat_map constructor_numbers b.types.items ++ flat_map recursor_numbers b.recursors.value.items)
      (All-map IsTree (λ (t : BlockType). t.ty) b.types.items (All-weaker (IsTypeIn c) (λ (t : BlockType). IsTree t.ty) (λ t s. s.stated.ty_in) b.types.items h.0))
      (All-append IsTree (flat_map constructor_numbers b.types.items) (flat_map recursor_numbers b.recursors.value.items) (all_ctors_in b.types.items h.0) (recursors_in b.recursors.value.items h.1))

  -- One of them mentions a name where one of the trees does.
  pub record IsMentionedIn (x : Name) (ns : List ℕ) : Type 0 where
    pub tree : ℕ
    pub is_one : Contains ns tree
    pub has : mentions (x ∷ []) (tree_at c tree) ≡ true

  pub mentioned_in : (x : Name) (ns : List ℕ) (es : Trees) → map (tree_at c) ns ≡ plain es → TreesMention x es → IsMentionedIn x ns
  mentioned_in x [] [] e h = absurd h
  mentioned_in x (n ∷ ns) (t ∷ es) e (inl h) = let head : tree_at c n ≡ t.1 = cc in record { tree = n; is_one = (0, omega arith, refl); has = ap (mentions (x ∷ [])) head ∙ h }
  mentioned_in x (n ∷ ns) (t ∷ es) e (inr h) =
      let rest : map (tree_at c) ns ≡ plain es = cc in
      let m : IsMentionedIn x ns = mentioned_in x ns es rest h in
      record { tree = m.tree; is_one = contains_later n ns m.tree m.is_one; has = m.has }
  mentioned_in x [] (t ∷ es) e h = absurd cc
  mentioned_in x (n ∷ ns) [] e h = absurd h

  pub mentions_there : (x : Name) (ns : List ℕ) (es : Trees) → map (tree_at c) ns ≡ plain es → (t : ℕ) → Contains ns t → mentions (x ∷ []) (tree_at c t) ≡ true → TreesMention x es
  mentions_there x [] [] e t i h = absurd (omega (arith, i.1))
  mentions_there x (n ∷ ns) (s ∷ es) e t i h =
      let head : tree_at c n ≡ s.1 = cc in
      let rest : map (tree_at c) ns ≡ plain es = cc in
      elim (contains_cases n ns t i) [
        | inl same ↦ inl (ap (mentions (x ∷ [])) (sym head ∙ ap (tree_at c) same) ∙ h)
        | inr j ↦ inr (mentions_there x ns es rest t j h)
      ]
  mentions_there x [] (s ∷ es) e t i h = absurd cc
  mentions_there x (n ∷ ns) [] e t i h = absurd cc
