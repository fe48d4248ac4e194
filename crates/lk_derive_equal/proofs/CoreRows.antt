-- Two trees by their Core.
use Rattle.std.proofs.Common.{ℕ, ◌≡◌, ◌+◌, ◌<◌, Bool, true, false, ◌&&◌, [], ◌∷◌, refl, subst, if◌then◌else◌, arith}
use Rattle.lk_tree.specs.Tree.{Tree}
use Rattle.lk_tree.specs.Spine.{IsHeadNormal}
use Rattle.lk_rulebook.specs.Place.{Place}
use Rattle.lk_rulebook.specs.Claims.{reduces, equals}
use Rattle.lk_claims.proofs.Pieces.{same_tree}
use Rattle.lk_questions.specs.Query.{core, same}
use Rattle.lk_questions.specs.Program.{Program, done, ask, asked}
use Rattle.lk_questions.specs.Steps.{is_same_tree}
use Rattle.lk_questions.specs.Same.{by_reduction, same_reduced}
use Rattle.lk_written.specs.Line.{reduce_rule}
use Rattle.lk_store.specs.Contents.{Contents}
use Rattle.lk_step.specs.declared.step.Row.{Row}
use Rattle.lk_step.specs.Steps.{equality}
use Rattle.lk_step.specs.Rows.{no_claim, a_claim}
use Rattle.lk_step.specs.Runs.{Runs}
use Rattle.lk_step.specs.Told.{IsAnsweredWithin, IsCore}
use Rattle.lk_step.proofs.EqualitySteps.{equality_steps}
use Rattle.lk_step.proofs.Shapes.{shaped_answer}
use Rattle.lk_step.specs.Tests.{IsYes, ArePair, AreReduced}
use Rattle.lk_step.specs.Tells.{IsBasis, Rests}
use Rattle.lk_step.proofs.Following.{Followed, follow, asks_within, run_on, yes_run}
use Rattle.lk_step.proofs.Bases.{one_step, basis_more}

-- once both are there
abbrev by_both : Tree → Tree → Tree → Tree → Program Bool
by_both a b a' b' = if is_same_tree a' a && is_same_tree b' b then same_reduced a b else asked (same a' b')

pub cores_first : (w : Place) (a b : Tree) (most : ℕ) → IsYes w (by_reduction a b) most → IsAnsweredWithin w (core a) most
cores_first w a b most y = asks_within w (core a) (λ a'. ask (core b) (λ b'. by_both a b a' b')) most (yes_run y)

pub cores_second : (w : Place) (a b a' : Tree) (most : ℕ) → IsYes w (by_reduction a b) most → IsCore w a a' → IsAnsweredWithin w (core b) most
cores_second w a b a' most y k =
    asks_within w (core b) (λ b'. by_both a b a' b') most
    (run_on w (core a) (λ a'. ask (core b) (λ b'. by_both a b a' b')) most a' k.cost (yes_run y) k.answered)

pub both_first : (x y : Bool) → x && y ≡ true → x ≡ true
both_first true y h = refl
both_first false y h = h

pub both_second : (x y : Bool) → x && y ≡ true → y ≡ true
both_second true y h = h
both_second false y h = absurd cc

module _ (w : Place) (a b a' b' : Tree) (ka : IsCore w a a') (kb : IsCore w b b') where
  at_both : (n : ℕ) → Runs w (by_reduction a b) true n → Followed w (by_both a b a' b') true n (ka.cost + kb.cost)
  at_both n h =
      let one : Followed w (ask (core b) (λ b'. by_both a b a' b')) true n ka.cost = follow w (core a) (λ a'. ask (core b) (λ b'. by_both a b a' b')) true n a' ka.cost h ka.answered in
      let two : Followed w (by_both a b a' b') true one.left kb.cost = follow w (core b) (λ b'. by_both a b a' b') true one.left b' kb.cost one.runs kb.answered in
      let first : n ≡ ka.cost + one.left = one.paid in
      let second : one.left ≡ kb.cost + two.left = two.paid in
      record { left = two.left; runs = two.runs; paid = omega (arith, first, second) }

  -- neither moved
  pub at_tests : is_same_tree a' a && is_same_tree b' b ≡ true → (n : ℕ) → Runs w (by_reduction a b) true n → Followed w (same_reduced a b) true n (ka.cost + kb.cost)
  at_tests stay n h =
      let f : Followed w (by_both a b a' b') true n (ka.cost + kb.cost) = at_both n h in
      record { left = f.left; runs = subst (λ z. Runs w (if z then same_reduced a b else asked (same a' b')) true f.left) stay f.runs; paid = f.paid }

  pub tests_yes : is_same_tree a' a && is_same_tree b' b ≡ true → (most : ℕ) → IsYes w (by_reduction a b) most → IsYes w (same_reduced a b) most
  tests_yes stay most y =
      let f : Followed w (same_reduced a b) true y.cost (ka.cost + kb.cost) = at_tests stay y.cost y.runs in
      let paid : y.cost ≡ (ka.cost + kb.cost) + f.left = f.paid in
      let within : y.cost < most = y.within in
      record { cost = f.left; runs = f.runs; within = omega (arith, paid, within) }

  pub tests_pair : is_same_tree a' a && is_same_tree b' b ≡ true → ArePair w a b → AreReduced w a b
  tests_pair stay p =
      let one : a' ≡ a = same_tree a' a (both_first (is_same_tree a' a) (is_same_tree b' b) stay) in
      let two : b' ≡ b = same_tree b' b (both_second (is_same_tree a' a) (is_same_tree b' b) stay) in
      record {
        stated = p.stated;
        left = p.left;
        right = p.right;
        left_normal = subst IsHeadNormal one (shaped_answer w p.stated (core a) a' ka.cost p.left ka.answered).2;
        right_normal = subst IsHeadNormal two (shaped_answer w p.stated (core b) b' kb.cost p.right kb.answered).2;
      }

  pub tests_rest : is_same_tree a' a && is_same_tree b' b ≡ true → (c : Contents) (r : Row) → Rests w c (same_reduced a b) (equals a b) r → Rests w c (by_reduction a b) (equals a b) r
  tests_rest stay c r rests n h =
      let f : Followed w (same_reduced a b) true n (ka.cost + kb.cost) = at_tests stay n h in
      let paid : n ≡ (ka.cost + kb.cost) + f.left = f.paid in
      basis_more w c (equals a b) f.left n r (omega (arith, paid)) (rests f.left f.runs)

  pub moved_basis : is_same_tree a' a && is_same_tree b' b ≡ false → ArePair w a b → (n : ℕ) → Runs w (by_reduction a b) true n
      → IsBasis w (equals a b) n (core a ∷ core b ∷ same a' b' ∷ []) (equality reduce_rule a b (reduces a a' ∷ reduces b b' ∷ equals a' b' ∷ []) ∷ [])
  moved_basis moves p n h =
      let f : Followed w (by_both a b a' b') true n (ka.cost + kb.cost) = at_both n h in
      let r : Runs w (ask (same a' b') (λ y. done y)) true f.left = subst (λ z. Runs w (if z then same_reduced a b else asked (same a' b')) true f.left) moves f.runs in
      let first : n ≡ (ka.cost + kb.cost) + f.left = f.paid in
      let second : f.left ≡ r.1 + r.2 = r.5 in
      let fa = (shaped_answer w p.stated (core a) a' ka.cost p.left ka.answered).0.1 in
      let fb = (shaped_answer w p.stated (core b) b' kb.cost p.right kb.answered).0.1 in
      one_step w (equality reduce_rule a b (reduces a a' ∷ reduces b b' ∷ equals a' b' ∷ [])) (core a ∷ core b ∷ same a' b' ∷ []) (reduces a a' ∷ reduces b b' ∷ equals a' b' ∷ [])
      (ka.cost + (kb.cost + (r.1 + 0))) n
      (a_claim (core a) a' ka.cost p.left ka.answered tt (a_claim (core b) b' kb.cost p.right kb.answered tt (a_claim (same a' b') r.0 r.1 (fa, fb) r.3 r.4.0 no_claim)))
      (omega (arith, first, second)) ((equality_steps w).reduce a b a' b' p.left p.right (λ e i. absurd (p.unequal e))) refl
