-- The row of two trees that are the same.
use Rattle.std.proofs.Common.{ℕ, suc, ◌≡◌, ◌≤◌, true, false, [], map, inl, sym, subst, ◌∙◌, if◌then◌else◌, arith}
use Rattle.lk_tree.specs.Tree.{Tree}
use Rattle.lk_rulebook.specs.Place.{Place}
use Rattle.lk_rulebook.specs.WellStated.{WellStated}
use Rattle.lk_rulebook.specs.Claims.{equals}
use Rattle.lk_claims.proofs.Facts.{same_self}
use Rattle.lk_questions.specs.Query.{same}
use Rattle.lk_questions.specs.Program.{done}
use Rattle.lk_questions.specs.Steps.{is_same_tree}
use Rattle.lk_questions.specs.Same.{by_shape, same_steps}
use Rattle.lk_store.specs.Contents.{Contents}
use Rattle.lk_step.specs.Rows.{IsClaim, IsRow, no_claim}
use Rattle.lk_step.specs.Runs.{Runs, IsOpened}
use Rattle.lk_step.specs.Meaning.{IsRowOf, step_at}
use Rattle.lk_step.specs.declared.step.Row.{Row}
use Rattle.lk_step.proofs.Runs.{opened_so}
use Rattle.lk_step.specs.Makes.{IsMade}
use Rattle.lk_step.specs.Tests.{IsYes, ArePair}
use Rattle.lk_step.specs.Tells.{IsBasisOf, Rests}

module _ (w : Place) (a b : Tree) (most : ℕ) (k : IsClaim w (same a b) most) where
  row_opened : IsOpened w (same a b) k.answer k.cost
  row_opened = opened_so w (same a b) k.answer k.cost k.answered

  pub one_row : (c : Contents) (r : Row) → is_same_tree a b ≡ true → IsMade c [] [] r → IsRowOf w c (same a b) r
  one_row c r one m =
      let cost : k.cost ≡ suc (row_opened.0) = row_opened.1 in
      let row : IsRow w (same a b) k.answer k.cost [] [] = record { claims = []; spent = 0; asked = no_claim; less = omega (arith, cost); steps_hold = tt; stated = inl one } in
      record {
        answer = k.answer;
        cost = k.cost;
        answered = k.answered;
        claimed = k.claimed;
        row = subst (λ qs. IsRow w (same a b) k.answer k.cost qs (map (step_at c) r.steps.items)) (sym m.asks_are)
            (subst (λ ss. IsRow w (same a b) k.answer k.cost [] ss) (sym m.steps_are) row);
      }

  shape_runs : is_same_tree a b ≡ false → Runs w (by_shape a b) true row_opened.0
  shape_runs two = subst (λ z. Runs w (if z then done true else by_shape a b) true row_opened.0) two (subst (λ v. Runs w (same_steps a b) v row_opened.0) k.claimed row_opened.2)

  pub shape_yes : is_same_tree a b ≡ false → IsYes w (by_shape a b) most
  shape_yes two =
      let cost : k.cost ≡ suc (row_opened.0) = row_opened.1 in
      let within : k.cost ≤ most = k.within in
      record { cost = row_opened.0; runs = shape_runs two; within = omega (arith, cost, within) }

  pub shape_pair : is_same_tree a b ≡ false → WellStated w → ArePair w a b
  shape_pair two stated = record {
    stated = stated;
    left = k.askable.0;
    right = k.askable.1;
    unequal = λ e. let one : is_same_tree a b ≡ true = subst (λ x. is_same_tree a x ≡ true) e (same_self a) in let both : true ≡ false = sym one ∙ two in absurd cc;
  }

  pub shape_row : (c : Contents) (r : Row) → is_same_tree a b ≡ false → Rests w c (by_shape a b) (equals a b) r → IsRowOf w c (same a b) r
  shape_row c r two rests =
      let basis : IsBasisOf w c (equals a b) row_opened.0 r = rests row_opened.0 (shape_runs two) in
      let cost : k.cost ≡ suc (row_opened.0) = row_opened.1 in
      let within : basis.spent ≤ row_opened.0 = basis.within in
      record {
        answer = k.answer;
        cost = k.cost;
        answered = k.answered;
        claimed = k.claimed;
        row = record { claims = basis.claims; spent = basis.spent; asked = basis.asked; less = omega (arith, cost, within); steps_hold = basis.steps_hold; stated = basis.stated };
      }
