-- Exactly one of two trees is a lambda.
use Rattle.std.proofs.Common.{ℕ, ◌≡◌, ◌+◌, Bool, true, false, [], ◌∷◌, Option, None, refl, sym, subst, if◌then◌else◌, arith}
use Rattle.lk_tree.specs.Tree.{Tree, lam, pi}
use Rattle.lk_tree.specs.Spine.{IsNeutral, IsHeadNormal}
use Rattle.lk_tree.specs.WellFormed.{IsWellFormed}
use Rattle.lk_tree.proofs.Binding.{fine_more}
use Rattle.lk_rulebook.specs.Place.{Place}
use Rattle.lk_rulebook.specs.Claims.{types, reduces, equals}
use Rattle.lk_questions.specs.Query.{infer, whnf, same}
use Rattle.lk_questions.specs.Program.{done, ask}
use Rattle.lk_questions.specs.Pairs.{yes_alone, goes_on}
use Rattle.lk_questions.specs.Same.{by_function_eta, eta_first, eta_second, eta_long, is_lam}
use Rattle.lk_store.specs.Contents.{Contents, tree_of}
use Rattle.lk_store.specs.declared.node.Node.{Node}
use Rattle.lk_store.specs.declared.node.Node.TheVariants.{Pi}
use Rattle.lk_written.specs.Line.{eta_rule}
use Rattle.lk_step.specs.Steps.{equality, StepHolds}
use Rattle.lk_step.specs.Rows.{no_claim, a_claim}
use Rattle.lk_step.specs.Runs.{Runs}
use Rattle.lk_step.specs.Told.{IsAnsweredWithin, IsForm, IsType, IsSame}
use Rattle.lk_step.proofs.EqualitySteps.{equality_steps}
use Rattle.lk_step.proofs.Shapes.{shaped_answer}
use Rattle.lk_derive_equal.specs.Etas.{IsLambda}
use Rattle.lk_step.specs.Tests.{IsRun, AreReduced}
use Rattle.lk_step.specs.Tells.{IsBasis}
use Rattle.lk_step.proofs.Following.{Followed, follow, asks_within, run_on, run_followed}
use Rattle.lk_step.proofs.Bases.{one_step}

neutral_of : (o : Tree) → IsHeadNormal o → is_lam o ≡ false → IsNeutral o
neutral_of (lam A b) h l = absurd cc
neutral_of o h l = h

long_fine : (A o : Tree) → IsWellFormed A → IsWellFormed o → IsWellFormed (eta_long A o)
long_fine A o fA fo = (fA, (fine_more 0 1 o (omega arith) fo, omega arith))

pub lambda_of : (e : Tree) → is_lam e ≡ true → IsLambda e
lambda_of (lam A b) h = (A, b, refl)
lambda_of e h = absurd cc

-- both are lambdas, or neither is one
pub none_alike : (w : Place) (a b : Tree) (z : Bool) → is_lam a ≡ z → is_lam b ≡ z → (v : Option Bool) (n : ℕ) → Runs w (by_function_eta a b) v n → v ≡ None
none_alike w a b z la lb v n h =
    let P : Bool → Bool → Type 0 = λ x y. Runs w (if x then (if y then goes_on else (ask (infer b) (λ T. ask (whnf T) (λ P. eta_second b a P)))) else (if y then (ask (infer a) (λ T. ask (whnf T) (λ P. eta_first a b P))) else goes_on)) v n in
    go z (subst (λ y. P z y) lb (subst (λ x. P x (is_lam b)) la h))
  where
    go : (z : Bool) → Runs w (if z then (if z then goes_on else (ask (infer b) (λ T. ask (whnf T) (λ P. eta_second b a P)))) else (if z then (ask (infer a) (λ T. ask (whnf T) (λ P. eta_first a b P))) else goes_on)) v n → v ≡ None
    go true r = sym r.0
    go false r = sym r.0

none1 : (w : Place) (o e : Tree) (c : Contents) (node : Node) → ((A B : ℕ) → node ≡ Pi A B → ⊥) → (v : Option Bool) (n : ℕ) → Runs w (eta_first o e (tree_of c node)) v n → v ≡ None
none1 w o e c (Pi A B) other v n h = absurd (other A B refl)
none1 w o e c node other v n h = sym h.0

none2 : (w : Place) (o e : Tree) (c : Contents) (node : Node) → ((A B : ℕ) → node ≡ Pi A B → ⊥) → (v : Option Bool) (n : ℕ) → Runs w (eta_second o e (tree_of c node)) v n → v ≡ None
none2 w o e c (Pi A B) other v n h = absurd (other A B refl)
none2 w o e c node other v n h = sym h.0

module _ (w : Place) (a b : Tree) (la : is_lam a ≡ false) (lb : is_lam b ≡ true) where
  run1 : (v : Option Bool) (n : ℕ) → Runs w (by_function_eta a b) v n → Runs w (ask (infer a) (λ T. ask (whnf T) (λ P. eta_first a b P))) v n
  run1 v n h =
      let P : Bool → Bool → Type 0 = λ x y. Runs w (if x then (if y then goes_on else (ask (infer b) (λ T. ask (whnf T) (λ P. eta_second b a P)))) else (if y then (ask (infer a) (λ T. ask (whnf T) (λ P. eta_first a b P))) else goes_on)) v n in
      subst (λ y. P false y) lb (subst (λ x. P x (is_lam b)) la h)

  runs1 : (most : ℕ) → IsRun w (by_function_eta a b) most → IsRun w (ask (infer a) (λ T. ask (whnf T) (λ P. eta_first a b P))) most
  runs1 most r = record { value = r.value; cost = r.cost; runs = run1 r.value r.cost r.runs; within = r.within }

  pub type_asked1 : (most : ℕ) → IsRun w (by_function_eta a b) most → IsAnsweredWithin w (infer a) most
  type_asked1 most r = asks_within w (infer a) (λ T. ask (whnf T) (λ P. eta_first a b P)) most (runs1 most r)

  module _ (T : Tree) (t : IsType w a T) where
    pub form_asked1 : (most : ℕ) → IsRun w (by_function_eta a b) most → IsAnsweredWithin w (whnf T) most
    form_asked1 most r = asks_within w (whnf T) (λ P. eta_first a b P) most (run_on w (infer a) (λ T. ask (whnf T) (λ P. eta_first a b P)) most T t.cost (runs1 most r) t.answered)

    module _ (P : Tree) (f : IsForm w T P) where
      at_form1 : (v : Option Bool) (n : ℕ) → Runs w (by_function_eta a b) v n → Followed w (eta_first a b P) v n (t.cost + f.cost)
      at_form1 v n h =
          let one : Followed w (ask (whnf T) (λ P. eta_first a b P)) v n t.cost = follow w (infer a) (λ T. ask (whnf T) (λ P. eta_first a b P)) v n T t.cost (run1 v n h) t.answered in
          let two : Followed w (eta_first a b P) v one.left f.cost = follow w (whnf T) (λ P. eta_first a b P) v one.left P f.cost one.runs f.answered in
          let first : n ≡ t.cost + one.left = one.paid in
          let second : one.left ≡ f.cost + two.left = two.paid in
          record { left = two.left; runs = two.runs; paid = omega (arith, first, second) }

      pub no_pi1 : (c : Contents) (node : Node) → ((A B : ℕ) → node ≡ Pi A B → ⊥) → tree_of c node ≡ P → (v : Option Bool) (n : ℕ) → Runs w (by_function_eta a b) v n → v ≡ None
      no_pi1 c node other is v n h =
          let r : Followed w (eta_first a b P) v n (t.cost + f.cost) = at_form1 v n h in
          none1 w a b c node other v r.left (subst (λ P. Runs w (eta_first a b P) v r.left) (sym is) r.runs)

      module _ (A B : Tree) (is : P ≡ pi A B) where
        at_long1 : (v : Option Bool) (n : ℕ) → Runs w (by_function_eta a b) v n → Followed w (ask (same (eta_long A a) b) (λ y. done (yes_alone y))) v n (t.cost + f.cost)
        at_long1 v n h =
            let r : Followed w (eta_first a b P) v n (t.cost + f.cost) = at_form1 v n h in
            record { left = r.left; runs = subst (λ P. Runs w (eta_first a b P) v r.left) is r.runs; paid = r.paid }

        pub long_asked1 : (most : ℕ) → IsRun w (by_function_eta a b) most → IsAnsweredWithin w (same (eta_long A a) b) most
        long_asked1 most r = asks_within w (same (eta_long A a) b) (λ y. done (yes_alone y)) most (run_followed r (at_long1 r.value r.cost r.runs))

        module _ (y : Bool) (s : IsSame w (eta_long A a) b y) where
          end1 : (v : Option Bool) (n : ℕ) → Runs w (by_function_eta a b) v n → Followed w (done (yes_alone y)) v n (t.cost + (f.cost + s.cost))
          end1 v n h =
              let one : Followed w (ask (same (eta_long A a) b) (λ y. done (yes_alone y))) v n (t.cost + f.cost) = at_long1 v n h in
              let two : Followed w (done (yes_alone y)) v one.left s.cost = follow w (same (eta_long A a) b) (λ y. done (yes_alone y)) v one.left y s.cost one.runs s.answered in
              let first : n ≡ (t.cost + f.cost) + one.left = one.paid in
              let second : one.left ≡ s.cost + two.left = two.paid in
              record { left = two.left; runs = two.runs; paid = omega (arith, first, second) }

          pub ends1 : (v : Option Bool) (n : ℕ) → Runs w (by_function_eta a b) v n → yes_alone y ≡ v
          ends1 v n h = (end1 v n h).runs.0

          pub basis1 : y ≡ true → AreReduced w a b → IsLambda b → (v : Option Bool) (n : ℕ) → Runs w (by_function_eta a b) v n
              → IsBasis w (equals a b) n (infer a ∷ whnf T ∷ same (eta_long A a) b ∷ []) (equality eta_rule a b (types a T ∷ reduces T P ∷ equals (eta_long A a) b ∷ []) ∷ [])
          basis1 agree p l v n h =
              let g : Followed w (done (yes_alone y)) v n (t.cost + (f.cost + s.cost)) = end1 v n h in
              let paid : n ≡ (t.cost + (f.cost + s.cost)) + g.left = g.paid in
              let fT = (shaped_answer w p.stated (infer a) T t.cost p.left t.answered).0.1 in
              let fP : IsWellFormed (pi A B) = subst IsWellFormed is (shaped_answer w p.stated (whnf T) P f.cost fT f.answered).0.1 in
              let fL : IsWellFormed (eta_long A a) = long_fine A a fP.0 p.left in
              subst (λ P. IsBasis w (equals a b) n (infer a ∷ whnf T ∷ same (eta_long A a) b ∷ []) (equality eta_rule a b (types a T ∷ reduces T P ∷ equals (eta_long A a) b ∷ []) ∷ [])) (sym is)
              (one_step w (equality eta_rule a b (types a T ∷ reduces T (pi A B) ∷ equals (eta_long A a) b ∷ [])) (infer a ∷ whnf T ∷ same (eta_long A a) b ∷ []) (types a T ∷ reduces T (pi A B) ∷ equals (eta_long A a) b ∷ []) (t.cost + (f.cost + (s.cost + 0))) n
              (a_claim (infer a) T t.cost p.left t.answered tt (a_claim (whnf T) (pi A B) f.cost fT (subst (λ P. IsForm w T P) is f).answered tt (a_claim (same (eta_long A a) b) y s.cost (fL, p.right) s.answered agree no_claim)))
              (omega (arith, paid))
              (subst (λ x. IsWellFormed x → StepHolds w (equality eta_rule a x (types a T ∷ reduces T (pi A B) ∷ equals (eta_long A a) x ∷ []))) l.2
              (λ fx. (equality_steps w).eta_left a T A B l.0 l.1 (neutral_of a p.left_normal la) p.left fx) p.right) refl)

module _ (w : Place) (a b : Tree) (la : is_lam a ≡ true) (lb : is_lam b ≡ false) where
  run2 : (v : Option Bool) (n : ℕ) → Runs w (by_function_eta a b) v n → Runs w (ask (infer b) (λ T. ask (whnf T) (λ P. eta_second b a P))) v n
  run2 v n h =
      let P : Bool → Bool → Type 0 = λ x y. Runs w (if x then (if y then goes_on else (ask (infer b) (λ T. ask (whnf T) (λ P. eta_second b a P)))) else (if y then (ask (infer a) (λ T. ask (whnf T) (λ P. eta_first a b P))) else goes_on)) v n in
      subst (λ y. P true y) lb (subst (λ x. P x (is_lam b)) la h)

  runs2 : (most : ℕ) → IsRun w (by_function_eta a b) most → IsRun w (ask (infer b) (λ T. ask (whnf T) (λ P. eta_second b a P))) most
  runs2 most r = record { value = r.value; cost = r.cost; runs = run2 r.value r.cost r.runs; within = r.within }

  pub type_asked2 : (most : ℕ) → IsRun w (by_function_eta a b) most → IsAnsweredWithin w (infer b) most
  type_asked2 most r = asks_within w (infer b) (λ T. ask (whnf T) (λ P. eta_second b a P)) most (runs2 most r)

  module _ (T : Tree) (t : IsType w b T) where
    pub form_asked2 : (most : ℕ) → IsRun w (by_function_eta a b) most → IsAnsweredWithin w (whnf T) most
    form_asked2 most r = asks_within w (whnf T) (λ P. eta_second b a P) most (run_on w (infer b) (λ T. ask (whnf T) (λ P. eta_second b a P)) most T t.cost (runs2 most r) t.answered)

    module _ (P : Tree) (f : IsForm w T P) where
      at_form2 : (v : Option Bool) (n : ℕ) → Runs w (by_function_eta a b) v n → Followed w (eta_second b a P) v n (t.cost + f.cost)
      at_form2 v n h =
          let one : Followed w (ask (whnf T) (λ P. eta_second b a P)) v n t.cost = follow w (infer b) (λ T. ask (whnf T) (λ P. eta_second b a P)) v n T t.cost (run2 v n h) t.answered in
          let two : Followed w (eta_second b a P) v one.left f.cost = follow w (whnf T) (λ P. eta_second b a P) v one.left P f.cost one.runs f.answered in
          let first : n ≡ t.cost + one.left = one.paid in
          let second : one.left ≡ f.cost + two.left = two.paid in
          record { left = two.left; runs = two.runs; paid = omega (arith, first, second) }

      pub no_pi2 : (c : Contents) (node : Node) → ((A B : ℕ) → node ≡ Pi A B → ⊥) → tree_of c node ≡ P → (v : Option Bool) (n : ℕ) → Runs w (by_function_eta a b) v n → v ≡ None
      no_pi2 c node other is v n h =
          let r : Followed w (eta_second b a P) v n (t.cost + f.cost) = at_form2 v n h in
          none2 w b a c node other v r.left (subst (λ P. Runs w (eta_second b a P) v r.left) (sym is) r.runs)

      module _ (A B : Tree) (is : P ≡ pi A B) where
        at_long2 : (v : Option Bool) (n : ℕ) → Runs w (by_function_eta a b) v n → Followed w (ask (same a (eta_long A b)) (λ y. done (yes_alone y))) v n (t.cost + f.cost)
        at_long2 v n h =
            let r : Followed w (eta_second b a P) v n (t.cost + f.cost) = at_form2 v n h in
            record { left = r.left; runs = subst (λ P. Runs w (eta_second b a P) v r.left) is r.runs; paid = r.paid }

        pub long_asked2 : (most : ℕ) → IsRun w (by_function_eta a b) most → IsAnsweredWithin w (same a (eta_long A b)) most
        long_asked2 most r = asks_within w (same a (eta_long A b)) (λ y. done (yes_alone y)) most (run_followed r (at_long2 r.value r.cost r.runs))

        module _ (y : Bool) (s : IsSame w a (eta_long A b) y) where
          end2 : (v : Option Bool) (n : ℕ) → Runs w (by_function_eta a b) v n → Followed w (done (yes_alone y)) v n (t.cost + (f.cost + s.cost))
          end2 v n h =
              let one : Followed w (ask (same a (eta_long A b)) (λ y. done (yes_alone y))) v n (t.cost + f.cost) = at_long2 v n h in
              let two : Followed w (done (yes_alone y)) v one.left s.cost = follow w (same a (eta_long A b)) (λ y. done (yes_alone y)) v one.left y s.cost one.runs s.answered in
              let first : n ≡ (t.cost + f.cost) + one.left = one.paid in
              let second : one.left ≡ s.cost + two.left = two.paid in
              record { left = two.left; runs = two.runs; paid = omega (arith, first, second) }

          pub ends2 : (v : Option Bool) (n : ℕ) → Runs w (by_function_eta a b) v n → yes_alone y ≡ v
          ends2 v n h = (end2 v n h).runs.0

          pub basis2 : y ≡ true → AreReduced w a b → IsLambda a → (v : Option Bool) (n : ℕ) → Runs w (by_function_eta a b) v n
              → IsBasis w (equals a b) n (infer b ∷ whnf T ∷ same a (eta_long A b) ∷ []) (equality eta_rule a b (types b T ∷ reduces T P ∷ equals a (eta_long A b) ∷ []) ∷ [])
          basis2 agree p l v n h =
              let g : Followed w (done (yes_alone y)) v n (t.cost + (f.cost + s.cost)) = end2 v n h in
              let paid : n ≡ (t.cost + (f.cost + s.cost)) + g.left = g.paid in
              let fT = (shaped_answer w p.stated (infer b) T t.cost p.right t.answered).0.1 in
              let fP : IsWellFormed (pi A B) = subst IsWellFormed is (shaped_answer w p.stated (whnf T) P f.cost fT f.answered).0.1 in
              let fL : IsWellFormed (eta_long A b) = long_fine A b fP.0 p.right in
              subst (λ P. IsBasis w (equals a b) n (infer b ∷ whnf T ∷ same a (eta_long A b) ∷ []) (equality eta_rule a b (types b T ∷ reduces T P ∷ equals a (eta_long A b) ∷ []) ∷ [])) (sym is)
              (one_step w (equality eta_rule a b (types b T ∷ reduces T (pi A B) ∷ equals a (eta_long A b) ∷ [])) (infer b ∷ whnf T ∷ same a (eta_long A b) ∷ []) (types b T ∷ reduces T (pi A B) ∷ equals a (eta_long A b) ∷ []) (t.cost + (f.cost + (s.cost + 0))) n
              (a_claim (infer b) T t.cost p.right t.answered tt (a_claim (whnf T) (pi A B) f.cost fT (subst (λ P. IsForm w T P) is f).answered tt (a_claim (same a (eta_long A b)) y s.cost (p.left, fL) s.answered agree no_claim)))
              (omega (arith, paid))
              (subst (λ x. IsWellFormed x → StepHolds w (equality eta_rule x b (types b T ∷ reduces T (pi A B) ∷ equals x (eta_long A b) ∷ []))) l.2
              (λ fx. (equality_steps w).eta_right b T A B l.0 l.1 (neutral_of b p.right_normal lb) p.right fx) p.left) refl)
