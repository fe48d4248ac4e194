-- An answer under one budget tells its cost, and so what comes under every other.
use Rattle.std.proofs.Common.{ℕ, zero, suc, ◌≡◌, ◌<◌, ◌-◌, Option, ap, sym, ◌∙◌, arith}
use Rattle.lk_rulebook.specs.Place.{Place}
use Rattle.lk_questions.specs.Query.{Query, AnswerTo}
use Rattle.lk_questions.specs.Program.{Table}
use Rattle.lk_questions.specs.Answer.{Outcome, answered, refused, spent, IfAnswered, plain_answer}
use Rattle.lk_questions.specs.Laws.{IsSteady}
use Rattle.lk_questions.proofs.Budgets.{ans_steady, ans_zero}
use Rattle.lk_questions.specs.Erased.{Value, value_of, finished, left_of, out_of, IsAnsweredAt}

module _ (table : Table) (w : Place) (q : Query) where
  at_least_one : (b : ℕ) (a : AnswerTo q) (c : ℕ) (t : Option ℕ) → IsSteady (plain_answer table w q) b a c t → 0 < c
  at_least_one b a zero t s = let n : answered a zero t ≡ spent = sym (s.enough 0 (omega arith)) ∙ ans_zero table w q in absurd (cc)
  at_least_one b a (suc c) t s = omega arith

  steady_is : (b : ℕ) (a : AnswerTo q) (c : ℕ) (t : Option ℕ) → IsSteady (plain_answer table w q) b a c t → IsAnsweredAt (out_of table w q) (value_of q a) c t
  unfolding out_of
  steady_is b a c t s = record {
    some = at_least_one b a c t s;
    enough = λ n l. ap (left_of (value_of q) n) (s.enough n l);
    too_little = λ n l. ap (left_of (value_of q) n) (s.too_little n l);
  }

  exact_lem : (b : ℕ) (v : Value) (left : ℕ) (t : Option ℕ) (o : Outcome (AnswerTo q)) → IfAnswered o (IsSteady (plain_answer table w q) b) → left_of (value_of q) b o ≡ finished v left t
      → (left < b) × IsAnsweredAt (out_of table w q) v (b - left) t
  exact_lem b v left t (answered a c u) s h =
      let value : value_of q a ≡ v = cc in
      let rest : b - c ≡ left = cc in
      let last : u ≡ t = cc in
      let some = at_least_one b a c u s in
      let paid = s.paid in
      let cost : c ≡ b - left = omega (arith, paid, rest) in
      (omega (arith, paid, rest, some), rw (← value, ← cost, ← last) (steady_is b a c u s))
  exact_lem b v left t (refused r) s h = absurd (cc)
  exact_lem b v left t spent s h = absurd (cc)

  pub out_exact : (b : ℕ) (v : Value) (left : ℕ) (t : Option ℕ) → out_of table w q b ≡ finished v left t → (left < b) × IsAnsweredAt (out_of table w q) v (b - left) t
  unfolding out_of
  out_exact b v left t h = exact_lem b v left t (plain_answer table w q b) (ans_steady table w q b) h
