-- In a tree that mentions none of the names there is no nested occurrence.
use Rattle.std.proofs.Common.{◌≡◌, Bool, true, false, ◌&&◌, ◌||◌, List, Ok, refl, ap, ◌∙◌}
use Rattle.std.specs.Prelude.{not, if◌then◌else◌}
use Rattle.lk_tree.specs.Tree.{Name, Tree, var, sort, const, app, lam, pi, let_in, proj, lit, wide, str, local}
use Rattle.lk_tree.specs.Spine.{head, args}
use Rattle.lk_tree.specs.Mentions.{is_one_of, mentions}
use Rattle.lk_rulebook.specs.Place.{Place}
use Rattle.lk_questions.specs.Program.{look}
use Rattle.lk_inductive.specs.BlockSteps.{mention_none}
use Rattle.lk_inductive.specs.Nested.{holds_kind}
use Rattle.lk_tree.specs.declared.rule.Rule.TheVariants.{UnknownConstant}
use Rattle.lk_nested.specs.Findings.{found, finding, then_held}
use Rattle.lk_nested.specs.Nestings.{nested_in, IsHeadTest}
use Rattle.lk_nested.specs.Occurrences.{passes, entry_test, head_test}
use Rattle.lk_nested.specs.Unmet.{nothing, first_of, first_unmet}
use Rattle.lk_nested.proofs.Applied.{none_applied, test_applied, test_unapplied}
use Rattle.lk_nested.proofs.Tests.{by_parts}

both_quiet : (a b : Bool) → (a || b) ≡ false → (a ≡ false) × (b ≡ false)
both_quiet true b h = absurd cc
both_quiet false b h = (refl, h)

or_true : (a b : Bool) → b ≡ true → (a || b) ≡ true
or_true true b h = refl
or_true false b h = h

module _ (ns : List Name) where
  quiet_args : (t : Tree) → mentions ns t ≡ false → mention_none ns (args t) ≡ true
  unfolding args
  quiet_args (app f a) h =
      let quiet = both_quiet (mentions ns f) (mentions ns a) h in
      none_applied ns f a ∙ ap (λ b. b && not (mentions ns a)) (quiet_args f quiet.0) ∙ ap not quiet.1
  quiet_args (const c ls) h = refl
  quiet_args (var i) h = refl
  quiet_args (sort l) h = refl
  quiet_args (lam A b) h = refl
  quiet_args (pi A B) h = refl
  quiet_args (let_in A v b) h = refl
  quiet_args (proj S i s) h = refl
  quiet_args (lit n) h = refl
  quiet_args wide h = refl
  quiet_args (str s) h = refl
  quiet_args (local k T) h = refl

  module _ (w : Place) where
    quiet_held : (h : Tree) (xs : List Tree) → mention_none ns xs ≡ true → IsHeadTest w ns h xs (Ok false)
    quiet_held (const J ls) xs is = λ next.
        ap (λ (b : Bool). finding w (if b then next else look UnknownConstant J λ g. holds_kind xs g.kind next)) (or_true (is_one_of ns J) (mention_none ns xs) is)
    quiet_held (app f a) xs is = λ next. refl
    quiet_held (var i) xs is = λ next. refl
    quiet_held (sort l) xs is = λ next. refl
    quiet_held (lam A b) xs is = λ next. refl
    quiet_held (pi A B) xs is = λ next. refl
    quiet_held (let_in A v b) xs is = λ next. refl
    quiet_held (proj S i s) xs is = λ next. refl
    quiet_held (lit n) xs is = λ next. refl
    quiet_held wide xs is = λ next. refl
    quiet_held (str s) xs is = λ next. refl
    quiet_held (local k T) xs is = λ next. refl

    pub nested_quiet : (t : Tree) → mentions ns t ≡ false → nested_in w ns t ≡ found false
    nested_quiet (app f a) h =
        let quiet = both_quiet (mentions ns f) (mentions ns a) h in
        test_applied w ns (app f a) f (Ok false) refl (quiet_held (head (app f a)) (args (app f a)) (quiet_args (app f a) h))
        ∙ ap (λ x. then_held x (nested_in w ns a)) (nested_quiet f quiet.0) ∙ nested_quiet a quiet.1
    nested_quiet (lam A b) h =
        let quiet = both_quiet (mentions ns A) (mentions ns b) h in
        test_unapplied w ns (lam A b) refl ∙ ap (λ x. then_held x (nested_in w ns b)) (nested_quiet A quiet.0) ∙ nested_quiet b quiet.1
    nested_quiet (pi A B) h =
        let quiet = both_quiet (mentions ns A) (mentions ns B) h in
        test_unapplied w ns (pi A B) refl ∙ ap (λ x. then_held x (nested_in w ns B)) (nested_quiet A quiet.0) ∙ nested_quiet B quiet.1
    nested_quiet (let_in A v b) h =
        let quiet = both_quiet (mentions ns A) (mentions ns v || mentions ns b) h in
        let inner = both_quiet (mentions ns v) (mentions ns b) quiet.1 in
        test_unapplied w ns (let_in A v b) refl
        ∙ ap (λ x. then_held x (then_held (nested_in w ns v) (nested_in w ns b))) (nested_quiet A quiet.0)
        ∙ ap (λ x. then_held x (nested_in w ns b)) (nested_quiet v inner.0) ∙ nested_quiet b inner.1
    nested_quiet (proj S i s) h = nested_quiet s (both_quiet (is_one_of ns S) (mentions ns s) h).1
    nested_quiet (const c ls) h = refl
    nested_quiet (var i) h = refl
    nested_quiet (sort l) h = refl
    nested_quiet (lit n) h = refl
    nested_quiet wide h = refl
    nested_quiet (str s) h = refl
    nested_quiet (local k T) h = refl

    quiet_test : (h : Tree) (xs : List Tree) → mention_none ns xs ≡ true → head_test w ns h xs ≡ passes
    quiet_test (const J ls) xs is =
        ap (λ (b : Bool). if b then passes else entry_test J ls xs (w.means J) (w.flaw J)) (or_true (is_one_of ns J) (mention_none ns xs) is)
    quiet_test (app f a) xs is = refl
    quiet_test (var i) xs is = refl
    quiet_test (sort l) xs is = refl
    quiet_test (lam A b) xs is = refl
    quiet_test (pi A B) xs is = refl
    quiet_test (let_in A v b) xs is = refl
    quiet_test (proj S i s) xs is = refl
    quiet_test (lit n) xs is = refl
    quiet_test wide xs is = refl
    quiet_test (str s) xs is = refl
    quiet_test (local k T) xs is = refl

    module _ (met : List Tree) where
      pub unmet_quiet : (t : Tree) → mentions ns t ≡ false → first_unmet w ns met t ≡ nothing
      unmet_quiet (app f a) h =
          let quiet = both_quiet (mentions ns f) (mentions ns a) h in
          by_parts w ns met (app f a) (quiet_test (head (app f a)) (args (app f a)) (quiet_args (app f a) h))
          ∙ ap (λ x. first_of x (first_unmet w ns met a)) (unmet_quiet f quiet.0) ∙ unmet_quiet a quiet.1
      unmet_quiet (lam A b) h =
          let quiet = both_quiet (mentions ns A) (mentions ns b) h in
          ap (λ x. first_of x (first_unmet w ns met b)) (unmet_quiet A quiet.0) ∙ unmet_quiet b quiet.1
      unmet_quiet (pi A B) h =
          let quiet = both_quiet (mentions ns A) (mentions ns B) h in
          ap (λ x. first_of x (first_unmet w ns met B)) (unmet_quiet A quiet.0) ∙ unmet_quiet B quiet.1
      unmet_quiet (let_in A v b) h =
          let quiet = both_quiet (mentions ns A) (mentions ns v || mentions ns b) h in
          let inner = both_quiet (mentions ns v) (mentions ns b) quiet.1 in
          ap (λ x. first_of x (first_of (first_unmet w ns met v) (first_unmet w ns met b))) (unmet_quiet A quiet.0)
          ∙ ap (λ x. first_of x (first_unmet w ns met b)) (unmet_quiet v inner.0) ∙ unmet_quiet b inner.1
      unmet_quiet (proj S i s) h = unmet_quiet s (both_quiet (is_one_of ns S) (mentions ns s) h).1
      unmet_quiet (const c ls) h = refl
      unmet_quiet (var i) h = refl
      unmet_quiet (sort l) h = refl
      unmet_quiet (lit n) h = refl
      unmet_quiet wide h = refl
      unmet_quiet (str s) h = refl
      unmet_quiet (local k T) h = refl
