-- Two proofs of one proposition.
use Rattle.std.proofs.Common.{ℕ, ◌≡◌, ◌+◌, Bool, true, false, [], ◌∷◌, Option, None, refl, sym, subst, if◌then◌else◌, arith}
use Rattle.lk_tree.specs.Tree.{Tree, Level, sort}
use Rattle.lk_tree.specs.Level.{is_zero_level}
use Rattle.lk_rulebook.specs.Place.{Place}
use Rattle.lk_rulebook.specs.Claims.{types, reduces, equals}
use Rattle.lk_questions.specs.Query.{infer, whnf, same}
use Rattle.lk_questions.specs.Program.{done, ask, asked, ◌>>=◌}
use Rattle.lk_questions.specs.Steps.{sort_of}
use Rattle.lk_questions.specs.Pairs.{Line, yes_alone, answers_yes, goes_on}
use Rattle.lk_questions.specs.Same.{by_proof_irrelevance}
use Rattle.lk_written.specs.Line.{proof_rule}
use Rattle.lk_step.specs.Steps.{equality}
use Rattle.lk_step.specs.Equal.{proof_claims}
use Rattle.lk_step.specs.Rows.{no_claim, a_claim}
use Rattle.lk_step.specs.Runs.{Runs}
use Rattle.lk_step.specs.Told.{IsAnsweredWithin, IsForm, IsType, IsSame}
use Rattle.lk_step.proofs.EqualitySteps.{equality_steps}
use Rattle.lk_step.proofs.Shapes.{shaped_answer}
use Rattle.lk_step.specs.Tests.{IsRun, AreReduced}
use Rattle.lk_step.specs.Tells.{IsBasis}
use Rattle.lk_step.proofs.Following.{Followed, follow, asks_within, run_on, run_first, run_followed}
use Rattle.lk_derive_equal.proofs.Sorting.{sort_on}
use Rattle.lk_step.proofs.Bases.{one_step}

-- once the sort of a's type is there
abbrev by_level : Tree → Tree → Level → Line
by_level b A l = if is_zero_level l then (do
  B ← asked (infer b)
  answers_yes (asked (same A B))) else goes_on

abbrev by_types : Tree → Tree → Line
by_types b A = ask (infer b) (λ B. ask (same A B) (λ y. done (yes_alone y)))

pub proof_sort : (w : Place) (a b A : Tree) (most : ℕ) → IsRun w (by_proof_irrelevance a b) most → IsType w a A → IsRun w (sort_of A) most
proof_sort w a b A most r t = run_first w (sort_of A) (by_level b A) most (run_on w (infer a) (λ A. sort_of A >>= by_level b A) most A t.cost r t.answered)

module _ (w : Place) (a b A T S : Tree) (l : Level) (ta : IsType w a A) (ts : IsType w A T) (tf : IsForm w T S) (is : S ≡ sort l) where
  at_level : (v : Option Bool) (n : ℕ) → Runs w (by_proof_irrelevance a b) v n → Followed w (by_level b A l) v n (ta.cost + (ts.cost + tf.cost))
  at_level v n h =
      let one : Followed w (sort_of A >>= by_level b A) v n ta.cost = follow w (infer a) (λ A. sort_of A >>= by_level b A) v n A ta.cost h ta.answered in
      let two : Followed w (by_level b A l) v one.left (ts.cost + tf.cost) = sort_on w A T S l (by_level b A) v one.left ts tf is one.runs in
      let first : n ≡ ta.cost + one.left = one.paid in
      let second : one.left ≡ (ts.cost + tf.cost) + two.left = two.paid in
      record { left = two.left; runs = two.runs; paid = omega (arith, first, second) }

  pub proof_other : is_zero_level l ≡ false → (v : Option Bool) (n : ℕ) → Runs w (by_proof_irrelevance a b) v n → v ≡ None
  proof_other z v n h =
      let f : Followed w (by_level b A l) v n (ta.cost + (ts.cost + tf.cost)) = at_level v n h in
      let last : Runs w goes_on v f.left = subst (λ z. Runs w (if z then (asked (infer b) >>= λ B. answers_yes (asked (same A B))) else goes_on) v f.left) z f.runs in
      sym last.0

  at_types : is_zero_level l ≡ true → (v : Option Bool) (n : ℕ) → Runs w (by_proof_irrelevance a b) v n → Followed w (by_types b A) v n (ta.cost + (ts.cost + tf.cost))
  at_types z v n h =
      let f : Followed w (by_level b A l) v n (ta.cost + (ts.cost + tf.cost)) = at_level v n h in
      record { left = f.left; runs = subst (λ z. Runs w (if z then (asked (infer b) >>= λ B. answers_yes (asked (same A B))) else goes_on) v f.left) z f.runs; paid = f.paid }

  pub proof_right : is_zero_level l ≡ true → (most : ℕ) → IsRun w (by_proof_irrelevance a b) most → IsAnsweredWithin w (infer b) most
  proof_right z most r = asks_within w (infer b) (λ B. ask (same A B) (λ y. done (yes_alone y))) most (run_followed r (at_types z r.value r.cost r.runs))

  pub proof_same : is_zero_level l ≡ true → (B : Tree) → IsType w b B → (most : ℕ) → IsRun w (by_proof_irrelevance a b) most → IsAnsweredWithin w (same A B) most
  proof_same z B tb most r =
      asks_within w (same A B) (λ y. done (yes_alone y)) most
      (run_on w (infer b) (λ B. ask (same A B) (λ y. done (yes_alone y))) most B tb.cost (run_followed r (at_types z r.value r.cost r.runs)) tb.answered)

  module _ (z : is_zero_level l ≡ true) (B : Tree) (tb : IsType w b B) (y : Bool) (ty : IsSame w A B y) where
    at_end : (v : Option Bool) (n : ℕ) → Runs w (by_proof_irrelevance a b) v n → Followed w (done (yes_alone y)) v n (ta.cost + (ts.cost + (tf.cost + (tb.cost + ty.cost))))
    at_end v n h =
        let one : Followed w (by_types b A) v n (ta.cost + (ts.cost + tf.cost)) = at_types z v n h in
        let two : Followed w (ask (same A B) (λ y. done (yes_alone y))) v one.left tb.cost = follow w (infer b) (λ B. ask (same A B) (λ y. done (yes_alone y))) v one.left B tb.cost one.runs tb.answered in
        let three : Followed w (done (yes_alone y)) v two.left ty.cost = follow w (same A B) (λ y. done (yes_alone y)) v two.left y ty.cost two.runs ty.answered in
        let first : n ≡ (ta.cost + (ts.cost + tf.cost)) + one.left = one.paid in
        let second : one.left ≡ tb.cost + two.left = two.paid in
        let third : two.left ≡ ty.cost + three.left = three.paid in
        record { left = three.left; runs = three.runs; paid = omega (arith, first, second, third) }

    pub proof_ends : (v : Option Bool) (n : ℕ) → Runs w (by_proof_irrelevance a b) v n → yes_alone y ≡ v
    proof_ends v n h = (at_end v n h).runs.0

    pub proof_basis : y ≡ true → AreReduced w a b → (v : Option Bool) (n : ℕ) → Runs w (by_proof_irrelevance a b) v n →
        IsBasis w (equals a b) n (infer a ∷ infer A ∷ whnf T ∷ infer b ∷ same A B ∷ [])
        (equality proof_rule a b (types a A ∷ types A T ∷ reduces T S ∷ types b B ∷ equals A B ∷ []) ∷ [])
    proof_basis agree p v n h =
        let end : Followed w (done (yes_alone y)) v n (ta.cost + (ts.cost + (tf.cost + (tb.cost + ty.cost)))) = at_end v n h in
        let paid : n ≡ (ta.cost + (ts.cost + (tf.cost + (tb.cost + ty.cost)))) + end.left = end.paid in
        let fA = (shaped_answer w p.stated (infer a) A ta.cost p.left ta.answered).0.1 in
        let fT = (shaped_answer w p.stated (infer A) T ts.cost fA ts.answered).0.1 in
        let fB = (shaped_answer w p.stated (infer b) B tb.cost p.right tb.answered).0.1 in
        subst (λ S. IsBasis w (equals a b) n (infer a ∷ infer A ∷ whnf T ∷ infer b ∷ same A B ∷ [])
        (equality proof_rule a b (types a A ∷ types A T ∷ reduces T S ∷ types b B ∷ equals A B ∷ []) ∷ [])) (sym is)
        (one_step w (equality proof_rule a b (proof_claims a b A B T l)) (infer a ∷ infer A ∷ whnf T ∷ infer b ∷ same A B ∷ []) (proof_claims a b A B T l)
        (ta.cost + (ts.cost + (tf.cost + (tb.cost + (ty.cost + 0))))) n
        (a_claim (infer a) A ta.cost p.left ta.answered tt
        (a_claim (infer A) T ts.cost fA ts.answered tt
        (a_claim (whnf T) (sort l) tf.cost fT (subst (λ S. IsForm w T S) is tf).answered tt
        (a_claim (infer b) B tb.cost p.right tb.answered tt
        (a_claim (same A B) y ty.cost (fA, fB) ty.answered agree no_claim)))))
        (omega (arith, paid))
        ((equality_steps w).proof a b A B T l p.left_normal p.right_normal z p.left p.right)
        refl)
