-- The rule that fits, and its right side.
use Rattle.std.proofs.Common.{◌≡◌, ℕ, zero, suc, ◌+◌, ◌<◌, Bool, true, false, ◌&&◌, nat_eq, List}
use Rattle.std.proofs.Common.{[], ◌∷◌, length, map, take, drop, Option, Some, None, refl, ap, sym}
use Rattle.std.proofs.Common.{◌∙◌, arith, if◌then◌else◌}
use Rattle.std.specs.Prelude.{All, option_map}
use Rattle.std.proofs.lemmas.List.{take-map, drop-map, length-map}
use Rattle.std.proofs.lemmas.List.Elements.{All-head, All-tail}
use Rattle.lk_tree.specs.Tree.{Name, Level, Tree}
use Rattle.lk_tree.specs.Levels.{put_levels}
use Rattle.lk_tree.specs.Mentions.{same_name}
use Rattle.lk_tree.specs.Spine.{apply}
use Rattle.lk_tree.specs.declared.rule.Rule.TheVariants.{LevelCount}
use Rattle.lk_rulebook.specs.Place.{Place, Entry as PlainEntry, Kind, Recursor as PlainRecursor}
use Rattle.lk_rulebook.specs.Place.{a_rec}
use Rattle.lk_questions.specs.Query.{core}
use Rattle.lk_questions.specs.Program.{done, asked, ◌>>=◌}
use Rattle.lk_questions.specs.Erased.{a_tree, asks, gives, with_tree, erased}
use Rattle.lk_questions.specs.Steps.{given}
use Rattle.lk_questions.specs.Iota.{CtorApp, fitting_rule, by_rule}
use Rattle.lk_store.specs.Contents.{Contents, name_at, list_at, tree_at, Extends}
use Rattle.lk_store.proofs.Extending.{Extends-trans}
use Rattle.lk_subst.specs.Numbers.{trees-steady}
use Rattle.lk_env.specs.declared.unit.RecursorRule.{RecursorRule}
use Rattle.lk_env.specs.declared.unit.Recursor.{Recursor}
use Rattle.lk_env.specs.Units.{rule_at, IsRuleIn}
use Rattle.lk_ask.specs.Constants.{IsAtLevels}
use Rattle.lk_env.specs.Lent.{recursor_in, given_recursor}
use Rattle.lk_env.specs.StoredLibrary.{StoredLibrary}
use Rattle.lk_constructor.specs.declared.constructor.AppliedConstructor.{AppliedConstructor}
use Rattle.lk_constructor.specs.Applied.{IsApplied}
use Rattle.lk_iota.specs.declared.major.Redex.{Redex}
use Rattle.lk_iota.specs.Redexes.{PlainRedex, IsKnownRedex, IsRedex}
use Rattle.lk_iota.specs.RightSides.{right_side}
use Rattle.lk_iota.specs.Expansions.{at_ctor}
use Rattle.lk_iota.proofs.Steady.{front_steady, rest_steady}

-- a rule that does not fit is passed
pub rule_passed : (c : Contents) (rest more : List RecursorRule) (rule : RecursorRule) (x : Name)
    (p n : ℕ) (b : Bool) → rest ≡ rule ∷ more
    → b ≡ (same_name (name_at c rule.constructor) x && nat_eq n (p + rule.fields)) → b ≡ false
    → fitting_rule (map (rule_at c) rest) x p n ≡ fitting_rule (map (rule_at c) more) x p n
rule_passed c rest more rule x p n b one is off =
    ap (λ rs. fitting_rule (map (rule_at c) rs) x p n) one
    ∙ ap (λ (t : Bool). if t then Some (rule_at c rule) else fitting_rule (map (rule_at c) more)
    x p n) (sym is ∙ off)

-- the rules of a recursor that are given
pub rules_are : (base : Contents) (k : Kind) (r : PlainRecursor) (u : Recursor)
    (rules : List RecursorRule) → recursor_in k ≡ Some (given_recursor base u rules) → k ≡ a_rec r
    → r.rules ≡ map (rule_at base) rules
rules_are base k r u rules h kind =
    let both : Some r ≡ Some (given_recursor base u rules) = sym (ap recursor_in kind) ∙ h in
    let one : r ≡ given_recursor base u rules = cc in
    ap (λ (q : PlainRecursor). q.rules) one

pub no_rules : (k : Kind) (r : PlainRecursor) → recursor_in k ≡ None → k ≡ a_rec r → ⊥
no_rules k r h kind = let both : Some r ≡ None = sym (ap recursor_in kind) ∙ h in absurd (cc)

pub rules_steady : (c d : Contents) (rs : List RecursorRule) → Extends c d → All (IsRuleIn c) rs
    → map (rule_at d) rs ≡ map (rule_at c) rs
rules_steady c d [] x h = refl
rules_steady c d (r ∷ rs) x h =
    let first = All-head (IsRuleIn c) r rs h in
    let name = x.names.same r.constructor first.constructor_in in
    let value = x.trees.same r.value first.value_in in
    let others = rules_steady c d rs x (All-tail (IsRuleIn c) r rs h) in
    rw (name, value, others) refl

-- one list of arguments after another, while the store grows
pub applied_thrice : (c d f : Contents) (front first second : ℕ) (xs ys zs : List ℕ) → Extends c d
    → Extends d f → All (λ e. e < length c.trees) ys → All (λ e. e < length c.trees) zs
    → tree_at d first ≡ apply (tree_at c front) (map (tree_at c) xs)
    → tree_at f second ≡ apply (tree_at d first) (map (tree_at d) ys)
    → apply (tree_at f second) (map (tree_at f) zs)
    ≡ apply (apply (apply (tree_at c front) (map (tree_at c) xs)) (map (tree_at c) ys))
    (map (tree_at c) zs)
applied_thrice c d f front first second xs ys zs x y ys_in zs_in first_is second_is =
    let fields = trees-steady c d ys x ys_in in
    let others = trees-steady c f zs (Extends-trans _ _ _ x y) zs_in in
    ap (λ t. apply t (map (tree_at f) zs)) second_is
    ∙ ap (λ es. apply (apply (tree_at d first) (map (tree_at d) ys)) es) others
    ∙ ap (λ es. apply (apply (tree_at d first) es) (map (tree_at c) zs)) fields
    ∙ ap (λ t. apply (apply t (map (tree_at c) ys)) (map (tree_at c) zs)) first_is

-- the right side, where there are as many levels as level parameters
right_applied : (w : Place) (last : Option ℕ) (g : PlainEntry) (ls : List Level) (v u T : Tree)
    (xs ys zs : List Tree) → nat_eq (length ls) (length g.levels) ≡ true
    → u ≡ put_levels g.levels ls v
    → T ≡ apply (apply (apply u xs) ys) zs
    → asks last (core T) (with_tree (λ r. gives None (a_tree r)))
    ≡ erased w a_tree last (right_side g ls v xs ys zs)
right_applied w last g ls v u T xs ys zs many at is =
    ap (λ t. asks last (core t) (with_tree (λ r. gives None (a_tree r))))
    (is ∙ ap (λ y. apply (apply (apply y xs) ys) zs) at)
    ∙ sym (ap (λ (b : Bool). erased w a_tree last
    (given b LevelCount (done (put_levels g.levels ls v)) >>= λ y. asked
    (core (apply (apply (apply y xs) ys) zs)))) many)

module _ (c d : Contents) (x : Extends c d) (es : List ℕ)
    (es_in : All (λ e. e < length c.trees) es) where
  pub rule_applied : (f : Contents) (w : Place) (last : Option ℕ) (g : PlainEntry) (ls : List Level)
      (v : Tree) (front next shared before : ℕ) (fs xs zs : List ℕ)
      → All (λ e. e < length c.trees) fs
      → xs ≡ take shared es → zs ≡ drop (suc before) es → IsAtLevels d g.levels ls v (Some front)
      → tree_at f next ≡ apply (apply (apply (tree_at d front) (map (tree_at d) xs))
      (map (tree_at d) fs)) (map (tree_at d) zs)
      → asks last (core (tree_at f next)) (with_tree (λ r. gives None (a_tree r)))
      ≡ erased w a_tree last (right_side g ls v (map (tree_at c) (take shared es))
      (map (tree_at c) fs) (map (tree_at c) (drop (suc before) es)))
  rule_applied f w last g ls v front next shared before fs xs zs fs_in xs_are zs_are at is =
      let first = ap (map (tree_at d)) xs_are ∙ front_steady x es es_in shared in
      let fields = trees-steady c d fs x fs_in in
      let others = ap (map (tree_at d)) zs_are ∙ rest_steady x es es_in (suc before) in
      right_applied w last g ls v (tree_at d front) (tree_at f next)
      (map (tree_at c) (take shared es)) (map (tree_at c) fs)
      (map (tree_at c) (drop (suc before) es)) at.0 at.1.is
      (is ∙ ap (λ ys. apply (apply (apply (tree_at d front) ys) (map (tree_at d) fs))
      (map (tree_at d) zs)) first
      ∙ ap (λ ys. apply (apply (apply (tree_at d front) (map (tree_at c) (take shared es))) ys)
      (map (tree_at d) zs)) fields
      ∙ ap (λ ys. apply (apply (apply (tree_at d front) (map (tree_at c) (take shared es)))
      (map (tree_at c) fs)) ys) others)

-- fewer of the first ones
take_fewer : {A : Type 0} (m n : ℕ) (xs : List A) → m < suc n → take m (take n xs) ≡ take m xs
take_fewer zero n xs h = refl
take_fewer (suc m) zero xs h = absurd (omega arith)
take_fewer (suc m) (suc n) [] h = refl
take_fewer (suc m) (suc n) (y ∷ ys) h = ap (λ r. y ∷ r) (take_fewer m n ys (omega arith))

module _ (c : Contents) (l : StoredLibrary) (u : Redex) (p : PlainRedex)
    (known : IsKnownRedex c u) (is : IsRedex c l u p)
    (s : AppliedConstructor) (b : CtorApp) (subject : List ℕ)
    (applied : IsApplied c l (map (tree_at c) subject) s b)
    (rules : List RecursorRule) (rules_is : p.recursor.rules ≡ map (rule_at c) rules) (e : Tree)
    (o : Option RecursorRule) (count : ℕ) (count_is : count ≡ length subject)
    (fit : option_map (rule_at c) o
    ≡ fitting_rule (map (rule_at c) rules) (name_at c s.name) s.parameters count) where
  many : length b.args ≡ count
  many = ap length applied.args_are ∙ length-map subject (tree_at c) ∙ sym count_is

  fitting_is : fitting_rule p.recursor.rules b.name b.ctor.parameters (length b.args)
      ≡ option_map (rule_at c) o
  fitting_is =
      ap (λ rs. fitting_rule rs b.name b.ctor.parameters (length b.args)) rules_is
      ∙ ap (λ x. fitting_rule (map (rule_at c) rules) x b.ctor.parameters (length b.args))
      (sym applied.name_is)
      ∙ ap (λ n. fitting_rule (map (rule_at c) rules) (name_at c s.name) n (length b.args))
      (sym applied.parameters_are)
      ∙ ap (λ n. fitting_rule (map (rule_at c) rules) (name_at c s.name) s.parameters n) many
      ∙ sym fit

  -- no rule fits
  pub none_fits : (w : Place) (last : Option ℕ) → o ≡ None
      → gives last (a_tree e) ≡ erased w a_tree last (at_ctor e p (Some b))
  none_fits w last none = sym (ap
      (λ r. erased w a_tree last (by_rule e p.entry p.levels p.recursor p.front p.rest b r))
      (fitting_is ∙ ap (option_map (rule_at c)) none))

  -- this one fits
  pub one_fits : (rule : RecursorRule) → o ≡ Some rule
      → right_side p.entry (list_at c u.levels) (tree_at c rule.value)
      (map (tree_at c) (take u.shared u.arguments.items))
      (map (tree_at c) (drop s.parameters subject))
      (map (tree_at c) (drop (suc u.before) u.arguments.items))
      ≡ at_ctor e p (Some b)
  one_fits rule some =
      let t = tree_at c in
      let es = u.arguments.items in
      let n = p.recursor.parameters + p.recursor.motives + p.recursor.minors in
      let front : map t (take u.shared es) ≡ take n p.front =
      ap (map t) (sym (take_fewer u.shared u.before es known.shared_in))
      ∙ sym (take-map t u.shared (take u.before es)) ∙ ap (take u.shared) is.front_is
      ∙ ap (λ k. take k p.front) is.shared_is in
      let fields : map t (drop s.parameters subject) ≡ drop b.ctor.parameters b.args =
      sym (drop-map t s.parameters subject)
      ∙ ap (drop s.parameters) (sym applied.args_are)
      ∙ ap (λ k. drop k b.args) applied.parameters_are in
      let v = t rule.value in
      ap (λ ls. right_side p.entry ls v (map t (take u.shared es))
      (map t (drop s.parameters subject)) (map t (drop (suc u.before) es))) is.levels_are
      ∙ ap (λ xs. right_side p.entry p.levels v xs (map t (drop s.parameters subject))
      (map t (drop (suc u.before) es))) front
      ∙ ap (λ xs. right_side p.entry p.levels v (take n p.front) xs
      (map t (drop (suc u.before) es))) fields
      ∙ ap (λ xs. right_side p.entry p.levels v (take n p.front) (drop b.ctor.parameters b.args) xs)
      is.rest_is
      ∙ sym (ap (λ r. by_rule e p.entry p.levels p.recursor p.front p.rest b r)
      (fitting_is ∙ ap (option_map (rule_at c)) some))
