-- The first occurrence that was not met is one.
use Rattle.std.proofs.Common.{◌≡◌, Bool, true, false, List, refl, ap, ◌∙◌}
use Rattle.lk_tree.specs.Tree.{Name, Tree, var, sort, const, app, lam, pi, let_in, proj, lit, wide, str, local}
use Rattle.lk_rulebook.specs.Place.{Place}
use Rattle.lk_inductive.specs.BlockSteps.{is_among}
use Rattle.lk_nested.specs.Occurrences.{Test, passes, occurs, fails, test_at, is_occurrence}
use Rattle.lk_nested.specs.Unmet.{First, nothing, new, refused_by, first_of, by_test, first_unmet}

module _ (w : Place) (ns : List Name) (met : List Tree) (o : Tree) where
  tested_new : (e : Tree) (t : Test) (m : Bool) (below : First) → test_at w ns e ≡ t → (below ≡ new o → is_occurrence (test_at w ns o) ≡ true) → by_test t m e below ≡ new o → is_occurrence (test_at w ns o) ≡ true
  tested_new e passes m below is in_part h = in_part h
  tested_new e (occurs J ls b t) true below is in_part h = absurd cc
  tested_new e (occurs J ls b t) false below is in_part h = let same : o ≡ e = cc in ap (λ x. is_occurrence (test_at w ns x)) same ∙ ap is_occurrence is
  tested_new e (fails r) m below is in_part h = absurd cc

  two_new : {X : Type 0} (p q : First) → (p ≡ new o → X) → (q ≡ new o → X) → first_of p q ≡ new o → X
  two_new nothing q left right h = right h
  two_new (new u) q left right h = left h
  two_new (refused_by r) q left right h = absurd cc

  pub new_occurs : (e : Tree) → first_unmet w ns met e ≡ new o → is_occurrence (test_at w ns o) ≡ true
  new_occurs (app f a) h =
      tested_new (app f a) (test_at w ns (app f a)) (is_among (app f a) met) (first_of (first_unmet w ns met f) (first_unmet w ns met a)) refl
      (two_new (first_unmet w ns met f) (first_unmet w ns met a) (new_occurs f) (new_occurs a)) h
  new_occurs (lam A b) h = two_new (first_unmet w ns met A) (first_unmet w ns met b) (new_occurs A) (new_occurs b) h
  new_occurs (pi A B) h = two_new (first_unmet w ns met A) (first_unmet w ns met B) (new_occurs A) (new_occurs B) h
  new_occurs (let_in A v b) h =
      two_new (first_unmet w ns met A) (first_of (first_unmet w ns met v) (first_unmet w ns met b)) (new_occurs A)
      (two_new (first_unmet w ns met v) (first_unmet w ns met b) (new_occurs v) (new_occurs b)) h
  new_occurs (proj S i s) h = new_occurs s h
  new_occurs (var i) h = absurd cc
  new_occurs (sort l) h = absurd cc
  new_occurs (const c ls) h = absurd cc
  new_occurs (lit n) h = absurd cc
  new_occurs wide h = absurd cc
  new_occurs (str s) h = absurd cc
  new_occurs (local k T) h = absurd cc
