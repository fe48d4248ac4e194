-- The counts of a stated recursor and those of the block's own.
use Rattle.std.proofs.Common.{◌≡◌, ℕ, Bool, true, false, ◌&&◌, nat_eq, List, [], ◌∷◌, length, map, refl, ap, sym, ◌∙◌, arith}
use Rattle.std.proofs.lemmas.List.{length-map}
use Rattle.std.proofs.lemmas.Bool.Decides.{nat_tests}
use Rattle.lk_tree.specs.Mentions.{same_name}
use Rattle.lk_inductive.specs.Block.{Shape as PlainShape}
use Rattle.lk_inductive.specs.Recursors.{Restoring, rules_of, rec_params, minors, is_k}
use Rattle.lk_inductive.specs.Compare.{same_bool, same_rules, same_counts}
use Rattle.lk_store.specs.Contents.{Contents, name_at, tree_at}
use Rattle.lk_env.specs.declared.unit.RecursorRule.{RecursorRule}
use Rattle.lk_env.specs.Units.{rule_at}
use Rattle.lk_block.specs.declared.shape.ConstructorShape.{ConstructorShape}
use Rattle.lk_block.specs.Shapes.{field_at, constructor_shape_at, type_shape_at, shape_at}
use Rattle.lk_recursor.specs.declared.own.Comparison.{Comparison}
use Rattle.lk_recursor.specs.Fronts.{read_by}
use Rattle.lk_recursor.specs.Comparisons.{stated_of, own_of, IsComparison}

module _ (c : Contents) (w : Restoring) (s : PlainShape) where
  rules_end : (rules : List RecursorRule) → nat_eq (length rules) 0 ≡ same_rules (map (rule_at c) rules) []
  rules_end [] = refl
  rules_end (r ∷ rs) = grind (arith, nat_tests)

  pub no_constructor_left : (b : Bool) (rules : List RecursorRule) (ms : List ℕ) (ks : List ConstructorShape) → length ks ≡ 0 → b ≡ nat_eq (length rules) 0
      → b ≡ same_rules (map (rule_at c) rules) (rules_of w s (map (tree_at c) ms) (map (constructor_shape_at c) ks))
  no_constructor_left b rules [] [] e f = f ∙ rules_end rules
  no_constructor_left b rules (m ∷ ms) [] e f = f ∙ rules_end rules
  no_constructor_left b rules ms (k ∷ ks) e f = absurd (omega arith)

  pub no_minor_left : (b : Bool) (rules : List RecursorRule) (ms : List ℕ) (ks : List ConstructorShape) → length ms ≡ 0 → b ≡ nat_eq (length rules) 0
      → b ≡ same_rules (map (rule_at c) rules) (rules_of w s (map (tree_at c) ms) (map (constructor_shape_at c) ks))
  no_minor_left b rules [] ks e f = f ∙ rules_end rules
  no_minor_left b rules (m ∷ ms) ks e f = absurd (omega arith)

  pub rules_more : (rules more : List RecursorRule) (r : RecursorRule) (ms ns : List ℕ) (m : ℕ) (ks others : List ConstructorShape) (k : ConstructorShape) → rules ≡ r ∷ more → ms ≡ m ∷ ns → ks ≡ k ∷ others
      → (same_name (name_at c r.constructor) (w.named (name_at c k.name)) && nat_eq r.fields (length k.fields.items)) ≡ true
      → same_rules (map (rule_at c) rules) (rules_of w s (map (tree_at c) ms) (map (constructor_shape_at c) ks)) ≡ same_rules (map (rule_at c) more) (rules_of w s (map (tree_at c) ns) (map (constructor_shape_at c) others))
  rules_more rules more r ms ns m ks others k e f g agrees =
      let rest = same_rules (map (rule_at c) more) (rules_of w s (map (tree_at c) ns) (map (constructor_shape_at c) others)) in
      rw (e, f, g) (ap (λ n. (same_name (name_at c r.constructor) (w.named (name_at c k.name)) && nat_eq r.fields n) && rest) (length-map k.fields.items (field_at c)) ∙ ap (λ b. b && rest) agrees)

  -- a rule that is missing, and one that differs
  pub no_stated_rule : (rules : List RecursorRule) (ms ns : List ℕ) (m : ℕ) (ks others : List ConstructorShape) (k : ConstructorShape) → length rules ≡ 0 → ms ≡ m ∷ ns → ks ≡ k ∷ others
      → false ≡ same_rules (map (rule_at c) rules) (rules_of w s (map (tree_at c) ms) (map (constructor_shape_at c) ks))
  no_stated_rule [] ms ns m ks others k none f g = rw (f, g) refl
  no_stated_rule (r ∷ rs) ms ns m ks others k none f g = absurd (omega arith)

  pub rules_differ : (rules more : List RecursorRule) (r : RecursorRule) (ms ns : List ℕ) (m : ℕ) (ks others : List ConstructorShape) (k : ConstructorShape) → rules ≡ r ∷ more → ms ≡ m ∷ ns → ks ≡ k ∷ others
      → (same_name (name_at c r.constructor) (w.named (name_at c k.name)) && nat_eq r.fields (length k.fields.items)) ≡ false
      → false ≡ same_rules (map (rule_at c) rules) (rules_of w s (map (tree_at c) ms) (map (constructor_shape_at c) ks))
  rules_differ rules more r ms ns m ks others k e f g differs =
      let rest = same_rules (map (rule_at c) more) (rules_of w s (map (tree_at c) ns) (map (constructor_shape_at c) others)) in
      rw (e, f, g) (sym (ap (λ n. (same_name (name_at c r.constructor) (w.named (name_at c k.name)) && nat_eq r.fields n) && rest) (length-map k.fields.items (field_at c)) ∙ ap (λ b. b && rest) differs))

alike : (f : ℕ → ℕ → ℕ → ℕ → Bool → ℕ → ℕ → Bool) (p p' i i' t t' n n' : ℕ) (k k' : Bool) (u u' l l' : ℕ) → p ≡ p' → i ≡ i' → t ≡ t' → n ≡ n' → k ≡ k' → u ≡ u' → l ≡ l' → f p i t n k u l ≡ f p' i' t' n' k' u' l'
alike f p p' i i' t t' n n' k k' u u' l l' e1 e2 e3 e4 e5 e6 e7 = rw (e1, e2, e3, e4, e5, e6, e7) refl

-- by lengths of lists of numbers
pub counts_are : (c : Contents) (x : Comparison) → IsComparison c x → same_counts (stated_of c x) (own_of c x) ≡
    ((nat_eq x.stated.now.parameters (length x.shared.shape.now.parameters.items) && nat_eq x.stated.now.indices (length x.own.of.now.indices.items))
    && ((nat_eq x.stated.now.motives (length x.shared.shape.now.types.items) && nat_eq x.stated.now.minors (length x.shared.front.now.minors.items))
    && ((same_bool x.stated.now.k x.shared.k && nat_eq (length x.stated.now.levels.items) (length x.shared.front.now.names.items))
    && same_rules (map (rule_at c) x.stated.now.rules.items) (rules_of (read_by c x.shared.shape.now x.shared.front.now) (shape_at c x.shared.shape.now) (map (tree_at c) x.own.minors.now) (map (constructor_shape_at c) x.own.of.now.constructors.items)))))
counts_are c x h =
    let s = shape_at c x.shared.shape.now in
    let back = read_by c x.shared.shape.now x.shared.front.now in
    let front = h.shared_is.front_is in
    let rules = same_rules (map (rule_at c) x.stated.now.rules.items) (rules_of back s (map (tree_at c) x.own.minors.now) (map (constructor_shape_at c) x.own.of.now.constructors.items)) in
    let parameters : length (map (tree_at c) x.shared.shape.now.parameters.items) ≡ length x.shared.shape.now.parameters.items = length-map x.shared.shape.now.parameters.items (tree_at c) in
    let indices : length (map (tree_at c) x.own.of.now.indices.items) ≡ length x.own.of.now.indices.items = length-map x.own.of.now.indices.items (tree_at c) in
    let motives : length (map (type_shape_at c) x.shared.shape.now.types.items) ≡ length x.shared.shape.now.types.items = length-map x.shared.shape.now.types.items (type_shape_at c) in
    let premises : length (minors s) ≡ length x.shared.front.now.minors.items = ap length (sym front.minors_are.are) ∙ length-map x.shared.front.now.minors.items (tree_at c) in
    let own_levels : length (rec_params s) ≡ length x.shared.front.now.names.items = ap length (sym front.names_are) ∙ length-map x.shared.front.now.names.items (name_at c) in
    let levels : length (map (name_at c) x.stated.now.levels.items) ≡ length x.stated.now.levels.items = length-map x.stated.now.levels.items (name_at c) in
    alike (λ p i t n k u l.
    (nat_eq x.stated.now.parameters p && nat_eq x.stated.now.indices i) && ((nat_eq x.stated.now.motives t && nat_eq x.stated.now.minors n) && ((same_bool x.stated.now.k k && nat_eq u l) && rules)))
    (length (map (tree_at c) x.shared.shape.now.parameters.items)) (length x.shared.shape.now.parameters.items)
    (length (map (tree_at c) x.own.of.now.indices.items)) (length x.own.of.now.indices.items)
    (length (map (type_shape_at c) x.shared.shape.now.types.items)) (length x.shared.shape.now.types.items)
    (length (minors s)) (length x.shared.front.now.minors.items)
    (is_k s) x.shared.k
    (length (map (name_at c) x.stated.now.levels.items)) (length x.stated.now.levels.items)
    (length (rec_params s)) (length x.shared.front.now.names.items)
    parameters indices motives premises (sym h.shared_is.k_is) levels own_levels
