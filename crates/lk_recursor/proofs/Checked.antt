-- Questions about a stated recursor, while the store grows, and in their order.
use Rattle.std.proofs.Common.{◌≡◌, ◌<◌, ℕ, List, [], ◌∷◌, map, length, All, refl, ap, sym, ◌∙◌, arith}
use Rattle.lk_rulebook.specs.Place.{RecRule}
use Rattle.lk_questions.specs.Program.{done, ◌>>=◌}
use Rattle.lk_questions.specs.Declarations.{checked}
use Rattle.lk_store.specs.Contents.{Contents, name_at, tree_at, Extends}
use Rattle.lk_env.specs.declared.unit.RecursorRule.{RecursorRule}
use Rattle.lk_env.specs.declared.unit.Recursor.{Recursor}
use Rattle.lk_env.specs.Units.{rule_at, recursor_at, IsRecursorIn}
use Rattle.lk_inductive.specs.Block as plain
use Rattle.lk_inductive.specs.Recursors.{BlockRecursor, Restoring, rules_of, rule_value, recs_from, recursors_by}
use Rattle.lk_inductive.specs.Compare.{renamed, rules_steps, rec_steps, rec_named, compare_found, compare_steps}
use Rattle.lk_block.specs.declared.shape.ConstructorShape.{ConstructorShape}
use Rattle.lk_block.specs.declared.shape.TypeShape.{TypeShape}
use Rattle.lk_block.specs.declared.shape.Shape.{Shape}
use Rattle.lk_block.specs.Shapes.{shape_at, constructor_shape_at, type_shape_at, IsShapeIn, IsConstructorShapeIn}
use Rattle.lk_restore.specs.declared.originals.Original.{Original}
use Rattle.lk_restore.specs.Originals.{AreOriginals, restoring_at}
use Rattle.lk_restore.specs.Steady.{restoring-steady}
use Rattle.lk_recursor.specs.declared.own.Shared.{Shared}
use Rattle.lk_recursor.specs.declared.own.OwnRecursor.{OwnRecursor}
use Rattle.lk_recursor.specs.declared.own.Comparison.{Comparison}
use Rattle.lk_recursor.specs.declared.front.Front.{Front}
use Rattle.lk_recursor.specs.Fronts.{IsFront, read_by, own_recursors}
use Rattle.lk_recursor.specs.Comparisons.{own_at, stated_of, own_of, renamed_value, rule_form, parts_form, IsShared, IsOwnRecursor, IsComparison}
use Rattle.lk_env.proofs.Stays.{recursor_stays, recursors_stay}
use Rattle.lk_block.proofs.Shaping.{constructor-steady, shape-steady}
use Rattle.lk_recursor.proofs.Compared.{own-steady, stated_of-steady, own_of-steady}
use Rattle.lk_recursor.proofs.Steady.{read_by-steady, own_recursors-steady}
use Rattle.lk_recursor.proofs.Leading.{rules_then}

module _ (c d : Contents) (grown : Extends c d) (x : Comparison) (known : IsComparison c x) where
  pub renamed_value-steady : (m : ℕ) (k : ConstructorShape) → m < length c.trees → IsConstructorShapeIn c k → renamed_value d x m k ≡ renamed_value c x m k
  renamed_value-steady m k m_in k_in =
      ap (λ s. renamed s (own_of d x) (rule_value (read_by d x.shared.shape.now x.shared.front.now) (shape_at d x.shared.shape.now) (tree_at d m) (constructor_shape_at d k))) (stated_of-steady c d grown x known)
      ∙ ap (λ r. renamed (stated_of c x) r (rule_value (read_by d x.shared.shape.now x.shared.front.now) (shape_at d x.shared.shape.now) (tree_at d m) (constructor_shape_at d k))) (own_of-steady c d grown x known)
      ∙ ap (λ (w : Restoring). renamed (stated_of c x) (own_of c x) (rule_value w (shape_at d x.shared.shape.now) (tree_at d m) (constructor_shape_at d k)))
      (read_by-steady c d grown x.shared.shape.now x.shared.front.now known.shared_is.shape_in known.shared_is.front_is)
      ∙ ap (λ s. renamed (stated_of c x) (own_of c x) (rule_value (read_by c x.shared.shape.now x.shared.front.now) s (tree_at d m) (constructor_shape_at d k))) (shape-steady c d grown x.shared.shape.now known.shared_is.shape_in)
      ∙ ap (λ t. renamed (stated_of c x) (own_of c x) (rule_value (read_by c x.shared.shape.now x.shared.front.now) (shape_at c x.shared.shape.now) t (constructor_shape_at d k))) (grown.trees.same m m_in)
      ∙ ap (λ k. renamed (stated_of c x) (own_of c x) (rule_value (read_by c x.shared.shape.now x.shared.front.now) (shape_at c x.shared.shape.now) (tree_at c m) k)) (constructor-steady c d grown k k_in)

  pub rules-steady : rules_steps (stated_of d x) (own_of d x) (stated_of d x).recursor.rules (own_of d x).recursor.rules ≡ rules_steps (stated_of c x) (own_of c x) (stated_of c x).recursor.rules (own_of c x).recursor.rules
  rules-steady =
      ap (λ (s : BlockRecursor). rules_steps s (own_of d x) s.recursor.rules (own_of d x).recursor.rules) (stated_of-steady c d grown x known)
      ∙ ap (λ (r : BlockRecursor). rules_steps (stated_of c x) r (stated_of c x).recursor.rules r.recursor.rules) (own_of-steady c d grown x known)

  pub parts-steady : parts_form (stated_of d x) (own_of d x) ≡ parts_form (stated_of c x) (own_of c x)
  parts-steady = ap (λ s. parts_form s (own_of d x)) (stated_of-steady c d grown x known) ∙ ap (parts_form (stated_of c x)) (own_of-steady c d grown x known)

  -- the first rule, and then the others
  pub rules_step : (rules more : List RecursorRule) (r : RecursorRule) (minors ms : List ℕ) (m : ℕ) (ks others : List ConstructorShape) (k : ConstructorShape) → rules ≡ r ∷ more → minors ≡ m ∷ ms → ks ≡ k ∷ others
      → r.value < length c.trees → m < length c.trees → IsConstructorShapeIn c k
      → rules_steps (stated_of c x) (own_of c x) (map (rule_at c) rules) (rules_of (read_by c x.shared.shape.now x.shared.front.now) (shape_at c x.shared.shape.now) (map (tree_at c) minors) (map (constructor_shape_at c) ks))
      ≡ (rule_form (tree_at d r.value) (renamed_value d x m k) >>= λ u. rules_steps (stated_of c x) (own_of c x) (map (rule_at c) more) (rules_of (read_by c x.shared.shape.now x.shared.front.now) (shape_at c x.shared.shape.now) (map (tree_at c) ms) (map (constructor_shape_at c) others)))
  rules_step rules more r minors ms m ks others k e f h value_in m_in k_in =
      let s = stated_of c x in
      let own = own_of c x in
      let shape = shape_at c x.shared.shape.now in
      let back = read_by c x.shared.shape.now x.shared.front.now in
      let b : RecRule = record { ctor = back.named (name_at c k.name); fields = length (constructor_shape_at c k).fields; value = rule_value back shape (tree_at c m) (constructor_shape_at c k) } in
      let bs = rules_of back shape (map (tree_at c) ms) (map (constructor_shape_at c) others) in
      ap (λ rs. rules_steps s own (map (rule_at c) rs) (rules_of back shape (map (tree_at c) minors) (map (constructor_shape_at c) ks))) e
      ∙ ap (λ ns. rules_steps s own (map (rule_at c) (r ∷ more)) (rules_of back shape (map (tree_at c) ns) (map (constructor_shape_at c) ks))) f
      ∙ ap (λ ls. rules_steps s own (map (rule_at c) (r ∷ more)) (rules_of back shape (map (tree_at c) (m ∷ ms)) (map (constructor_shape_at c) ls))) h
      ∙ rules_then s own (rule_at c r) b (map (rule_at c) more) bs
      ∙ ap (λ v. rule_form v (renamed_value c x m k) >>= λ u. rules_steps s own (map (rule_at c) more) bs) (sym (grown.trees.same r.value value_in))
      ∙ ap (λ v. rule_form (tree_at d r.value) v >>= λ u. rules_steps s own (map (rule_at c) more) bs) (sym (renamed_value-steady m k m_in k_in))

no_own_rule : (s r : BlockRecursor) (as_ : List RecRule) → rules_steps s r as_ [] ≡ done checked
no_own_rule s r [] = refl
no_own_rule s r (a ∷ as_) = refl

module _ (c : Contents) (s r : BlockRecursor) (w : Restoring) (shape : plain.Shape) (rules : List RecursorRule) (minors : List ℕ) (ks : List ConstructorShape) where
  pub no_rule : length rules ≡ 0 → rules_steps s r (map (rule_at c) rules) (rules_of w shape (map (tree_at c) minors) (map (constructor_shape_at c) ks)) ≡ done checked
  no_rule none = go rules none
    where
      go : (rs : List RecursorRule) → length rs ≡ 0 → rules_steps s r (map (rule_at c) rs) (rules_of w shape (map (tree_at c) minors) (map (constructor_shape_at c) ks)) ≡ done checked
      go [] e = refl
      go (a ∷ as_) e = absurd (omega arith)

  pub no_minor : length minors ≡ 0 → rules_steps s r (map (rule_at c) rules) (rules_of w shape (map (tree_at c) minors) (map (constructor_shape_at c) ks)) ≡ done checked
  no_minor none = go minors none
    where
      go : (ms : List ℕ) → length ms ≡ 0 → rules_steps s r (map (rule_at c) rules) (rules_of w shape (map (tree_at c) ms) (map (constructor_shape_at c) ks)) ≡ done checked
      go [] e = no_own_rule s r (map (rule_at c) rules)
      go (m ∷ ms) e = absurd (omega arith)

  pub no_constructor : length ks ≡ 0 → rules_steps s r (map (rule_at c) rules) (rules_of w shape (map (tree_at c) minors) (map (constructor_shape_at c) ks)) ≡ done checked
  no_constructor none = go minors ks none
    where
      go : (ms : List ℕ) (ls : List ConstructorShape) → length ls ≡ 0 → rules_steps s r (map (rule_at c) rules) (rules_of w shape (map (tree_at c) ms) (map (constructor_shape_at c) ls)) ≡ done checked
      go [] [] e = no_own_rule s r (map (rule_at c) rules)
      go (m ∷ ms) [] e = no_own_rule s r (map (rule_at c) rules)
      go ms (l ∷ ls) e = absurd (omega arith)

-- the recursors of the block, by the numbers of its types and minor premises
pub recursors_are : (c : Contents) (s : Shared) → IsShared c s → (minors : List ℕ) (types : List TypeShape) → minors ≡ s.front.now.minors.items → types ≡ s.shape.now.types.items
    → recs_from (read_by c s.shape.now s.front.now) (shape_at c s.shape.now) (map (tree_at c) minors) (map (type_shape_at c) types) ≡ own_recursors c s.shape.now s.front.now
recursors_are c s known minors types e f =
    let shape = shape_at c s.shape.now in
    let back = read_by c s.shape.now s.front.now in
    ap (λ ts. recs_from back shape (map (tree_at c) minors) (map (type_shape_at c) ts)) f
    ∙ ap (λ ms. recs_from back shape (map (tree_at c) ms) shape.types) e
    ∙ ap (λ ms. recs_from back shape ms shape.types) known.front_is.minors_are.are

module _ (c d : Contents) (grown : Extends c d) (shape : Shape) (front : Front) (shape_in : IsShapeIn c shape) (front_is : IsFront c shape front) where
  pub pair-steady : (stated : Recursor) (own : OwnRecursor) → IsRecursorIn c stated → IsOwnRecursor c own
      → rec_steps (recursor_at d stated) (own_at d (read_by d shape front) (shape_at d shape) own) ≡ rec_steps (recursor_at c stated) (own_at c (read_by c shape front) (shape_at c shape) own)
  pair-steady stated own stated_in own_in =
      ap (λ s. rec_steps s (own_at d (read_by d shape front) (shape_at d shape) own)) (recursor_stays c d grown stated stated_in)
      ∙ ap (λ w. rec_steps (recursor_at c stated) (own_at d w (shape_at d shape) own)) (read_by-steady c d grown shape front shape_in front_is)
      ∙ ap (λ p. rec_steps (recursor_at c stated) (own_at d (read_by c shape front) p own)) (shape-steady c d grown shape shape_in)
      ∙ ap (rec_steps (recursor_at c stated)) (own-steady c d grown (read_by c shape front) (shape_at c shape) own own_in)

  -- the first stated recursor, and then the others
  pub recursors_step : (rest more : List Recursor) (r : Recursor) → rest ≡ r ∷ more → IsRecursorIn c r → compare_steps (own_recursors c shape front) (map (recursor_at c) rest)
      ≡ (compare_found (recursor_at d r) (rec_named (own_recursors d shape front) (name_at d r.name)) >>= λ y. compare_steps (own_recursors c shape front) (map (recursor_at c) more))
  recursors_step rest more r split r_in =
      let rs = own_recursors c shape front in
      let others = compare_steps rs (map (recursor_at c) more) in
      ap (λ ss. compare_steps rs (map (recursor_at c) ss)) split
      ∙ ap (λ s. compare_found s (rec_named rs (name_at c r.name)) >>= λ y. others) (sym (recursor_stays c d grown r r_in))
      ∙ ap (λ n. compare_found (recursor_at d r) (rec_named rs n) >>= λ y. others) (sym (grown.names.same r.name r_in.stated.name_in))
      ∙ ap (λ qs. compare_found (recursor_at d r) (rec_named qs (name_at d r.name)) >>= λ y. others) (sym (own_recursors-steady c d grown shape front shape_in front_is))

  pub compare-steady : (stated : List Recursor) → All (IsRecursorIn c) stated → compare_steps (own_recursors d shape front) (map (recursor_at d) stated) ≡ compare_steps (own_recursors c shape front) (map (recursor_at c) stated)
  compare-steady stated stated_in =
      ap (λ rs. compare_steps rs (map (recursor_at d) stated)) (own_recursors-steady c d grown shape front shape_in front_is)
      ∙ ap (compare_steps (own_recursors c shape front)) (recursors_stay c d grown stated stated_in)

-- the same, before what all of them share is made
pub compare-read : (c d : Contents) (grown : Extends c d) (shape : Shape) (os : List Original) → IsShapeIn c shape → AreOriginals c (shape_at c shape) os → (stated : List Recursor) → All (IsRecursorIn c) stated
    → compare_steps (recursors_by (restoring_at d os (shape_at d shape)) (shape_at d shape)) (map (recursor_at d) stated) ≡ compare_steps (recursors_by (restoring_at c os (shape_at c shape)) (shape_at c shape)) (map (recursor_at c) stated)
compare-read c d grown shape os shape_in originals_are stated stated_in =
    ap (λ p. compare_steps (recursors_by (restoring_at d os p) p) (map (recursor_at d) stated)) (shape-steady c d grown shape shape_in)
    ∙ ap (λ w. compare_steps (recursors_by w (shape_at c shape)) (map (recursor_at d) stated)) (restoring-steady c d grown (shape_at c shape) os originals_are)
    ∙ ap (compare_steps (recursors_by (restoring_at c os (shape_at c shape)) (shape_at c shape))) (recursors_stay c d grown stated stated_in)

-- nothing is stated
pub none_stated : (c : Contents) (rs : List BlockRecursor) (stated : List Recursor) → length stated ≡ 0 → compare_steps rs (map (recursor_at c) stated) ≡ done checked
none_stated c rs [] e = refl
none_stated c rs (s ∷ ss) e = absurd (omega arith)
