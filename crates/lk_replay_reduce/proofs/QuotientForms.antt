-- Quot.lift and Quot.ind on an element of a quotient.
use Rattle.std.proofs.Common.{◌≡◌, List, [], ◌∷◌, ◌++◌, Option, Some, None, refl, ap, ◌∙◌, append_assoc}
use Rattle.lk_tree.specs.Tree.{Name, Level, Tree, const, app}
use Rattle.lk_tree.specs.Mentions.{same_name}
use Rattle.lk_tree.specs.Spine.{head, args}
use Rattle.lk_rulebook.specs.Place.{Place}
use Rattle.lk_rulebook.specs.Names.{quot_mk, quot_lift, quot_ind}
use Rattle.lk_rulebook.specs.Claims.{Claim}
use Rattle.lk_questions.specs.Tests.{◌>>=◌, test, passes}
use Rattle.lk_written.specs.Premises.{Left, reduced}
use Rattle.lk_written.specs.Reducing.{is_quot, mk_of, red_quot, red_lift, red_ind}
use Rattle.lk_premises.proofs.Binding.{bind_same}
use Rattle.lk_replay_reduce.specs.Quotients.{lift_parts, ind_parts, element, applied_is, quot_read}

-- more than three arguments
too_many : (h : Tree) (xs : List Tree) (y A r a : Tree) → mk_of h (xs ++ y ∷ A ∷ r ∷ a ∷ []) ≡ None
too_many (const c ks) [] y A r a = refl
too_many (const c ks) (x ∷ []) y A r a = refl
too_many (const c ks) (x ∷ z ∷ []) y A r a = refl
too_many (const c ks) (x ∷ z ∷ v ∷ []) y A r a = refl
too_many (const c ks) (x ∷ z ∷ v ∷ u ∷ xs) y A r a = refl
too_many _ xs y A r a = refl

more : (h y A r a : Tree) → args (app (app (app (app h y) A) r) a) ≡ args h ++ y ∷ A ∷ r ∷ a ∷ []
unfolding args
more h y A r a =
    append_assoc ((args h ++ y ∷ []) ++ A ∷ []) (r ∷ []) (a ∷ [])
    ∙ append_assoc (args h ++ y ∷ []) (A ∷ []) (r ∷ a ∷ [])
    ∙ append_assoc (args h) (y ∷ []) (A ∷ r ∷ a ∷ [])

element_is : (m : Tree) → mk_of (head m) (args m) ≡ element quot_mk m
unfolding head args
element_is (app (app (app (const c ks) A) r) a) = refl
element_is (app (app (app (app h y) A) r) a) = ap (mk_of (head h)) (more h y A r a) ∙ too_many (head h) (args h) y A r a
element_is _ = refl

-- whether it passes is what counts
as_test : (o : Option (Unit {0})) (k : Option (Unit {0})) → (o >>= λ v. k) ≡ (test (passes o) >>= λ u. k)
as_test (Some v) k = refl
as_test None k = refl

module _ (w : Place) (ps : List Claim) (js : Left) (b : Tree) where
  quot_is : (c q : Name) (f m : Tree) → red_quot w ps js c q f m b ≡ quot_read w ps js q quot_mk (c, f, m) b
  quot_is c q f m =
      bind_same (test (same_name c q)) _ _
      (λ u. as_test (is_quot w q) _
      ∙ bind_same (test (passes (is_quot w q))) _ _
      (λ v. as_test (is_quot w quot_mk) _
      ∙ bind_same (test (passes (is_quot w quot_mk))) _ _
      (λ x. bind_same (reduced ps js m) _ _ (λ n. ap (λ o. o >>= λ a. applied_is n.1 f a b) (element_is n.0)))))

  pub lift_read : (a : Tree) → red_lift w ps js a b ≡ (lift_parts a >>= λ p. quot_read w ps js quot_lift quot_mk p b)
  lift_read (app (app (app (app (app (app (const c ls) A) r) B) f) h) m) = quot_is c quot_lift f m
  lift_read _ = refl

  pub ind_read : (a : Tree) → red_ind w ps js a b ≡ (ind_parts a >>= λ p. quot_read w ps js quot_ind quot_mk p b)
  ind_read (app (app (app (app (app (const c ls) A) r) B) h) m) = quot_is c quot_ind h m
  ind_read _ = refl
