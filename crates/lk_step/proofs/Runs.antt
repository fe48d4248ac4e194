-- What a question is answered comes of a run of its row, and is determined.
use Rattle.std.proofs.Common.{ℕ, zero, suc, ◌≡◌, ◌+◌, ◌-◌, Option, Some, None, refl, sym, subst, ◌∙◌, arith}
use Rattle.lk_rulebook.specs.Place.{Place, Entry}
use Rattle.lk_questions.specs.Query.{Query, AnswerTo}
use Rattle.lk_questions.specs.Program.{Program, done, refuse, ask, look, asked, ◌>>=◌}
use Rattle.lk_questions.specs.Answer.{Outcome, answered, refused, spent, after, and_then, looked_up, outcome_of, plain_answer}
use Rattle.lk_questions.specs.Laws.{IsSteady}
use Rattle.lk_questions.specs.Table.{steps}
use Rattle.lk_questions.proofs.Budgets.{ans_steady, ans_zero, ans_suc}
use Rattle.lk_questions.proofs.Outcomes.{of_answered}
use Rattle.lk_step.specs.Rows.{IsAnswered}
use Rattle.lk_step.specs.Runs.{Runs, RunsOn, IsOpened, AreOne}

-- an answer under one budget is one at its cost
pub answered_so : (w : Place) (q : Query) (b : ℕ) (v : AnswerTo q) (c : ℕ) (t : Option ℕ) → plain_answer steps w q b ≡ answered v c t → IsAnswered w q v c
answered_so w q b v c t e =
    let z : IsSteady (plain_answer steps w q) b v c t = of_answered (IsSteady (plain_answer steps w q) b) (plain_answer steps w q b) v c t e (ans_steady steps w q b) in
    λ n l. (t, z.enough n l)

-- what comes after something was paid and looked at
record IsAfter {A : Type 0} (o : Outcome A) (c : ℕ) (v : A) (n : ℕ) : Type 0 where
  cost : ℕ
  last : Option ℕ
  is : o ≡ answered v cost last
  paid : n ≡ c + cost

is_after : {A : Type 0} (o : Outcome A) (c : ℕ) (s : Option ℕ) (v : A) (n : ℕ) (t : Option ℕ) → after c s o ≡ answered v n t → IsAfter o c v n
is_after (answered u d y) c s v n t e =
    let value : u ≡ v = cc in
    let paid : c + d ≡ n = cc in
    record { cost = d; last = y; is = rw value refl; paid = sym paid }
is_after (refused r) c s v n t e = absurd cc
is_after spent c s v n t e = absurd cc

pub runs_of : {A : Type 0} (w : Place) (p : Program A) (b : ℕ) (v : A) (n : ℕ) (t : Option ℕ) → outcome_of w (plain_answer steps w) b p ≡ answered v n t → Runs w p v n
runs_of w (done u) b v n t e =
    let value : u ≡ v = cc in
    let paid : 0 ≡ n = cc in
    (value, sym paid)
runs_of w (refuse r) b v n t e = absurd cc
runs_of w (ask q k) b v n t e = go (plain_answer steps w q b) refl e (λ u c m s. runs_of w (k u) (b - c) v m s)
  where
    go : (o : Outcome (AnswerTo q)) → plain_answer steps w q b ≡ o → and_then o (λ u c. outcome_of w (plain_answer steps w) (b - c) (k u)) ≡ answered v n t →
        ((u : AnswerTo q) (c m : ℕ) (s : Option ℕ) → outcome_of w (plain_answer steps w) (b - c) (k u) ≡ answered v m s → Runs w (k u) v m) → Runs w (ask q k) v n
    go (answered u c s) i h r =
        let a : IsAfter (outcome_of w (plain_answer steps w) (b - c) (k u)) c v n = is_after (outcome_of w (plain_answer steps w) (b - c) (k u)) c s v n t h in
        (u, c, a.cost, answered_so w q b u c s i, r u c a.cost a.last a.is, a.paid)
    go (refused x) i h r = absurd cc
    go spent i h r = absurd cc
runs_of w (look r c k) b v n t e = go (w.means c) refl e (λ g m s. runs_of w (k g) b v m s)
  where
    go : (o : Option Entry) → w.means c ≡ o → looked_up r o (w.origin c) (w.flaw c) (λ g. outcome_of w (plain_answer steps w) b (k g)) ≡ answered v n t →
        ((g : Entry) (m : ℕ) (s : Option ℕ) → outcome_of w (plain_answer steps w) b (k g) ≡ answered v m s → Runs w (k g) v m) → Runs w (look r c k) v n
    go None i h f = absurd cc
    go (Some g) i h f =
        let a : IsAfter (outcome_of w (plain_answer steps w) b (k g)) 0 v n = is_after (outcome_of w (plain_answer steps w) b (k g)) 0 (Some (w.origin c)) v n t h in
        let after : n ≡ 0 + a.cost = a.paid in
        let paid : n ≡ a.cost = omega (arith, after) in
        (g, i, subst (λ m. Runs w (k g) v m) (sym paid) (f g a.cost a.last a.is))

-- the row was run, for one less
pub opened_so : (w : Place) (q : Query) (v : AnswerTo q) (c : ℕ) → IsAnswered w q v c → IsOpened w q v c
opened_so w q v zero h =
    let e : plain_answer steps w q 0 ≡ answered v 0 (h 0 (omega arith)).0 = (h 0 (omega arith)).1 in
    let z : plain_answer steps w q 0 ≡ spent = ans_zero steps w q in
    absurd cc
opened_so w q v (suc n) h =
    let t : Option ℕ = (h (suc n) (omega arith)).0 in
    let e : plain_answer steps w q (suc n) ≡ answered v (suc n) t = (h (suc n) (omega arith)).1 in
    let o : Outcome (AnswerTo q) = outcome_of w (plain_answer steps w) n (steps q) in
    let i : after 1 None o ≡ answered v (suc n) t = sym (ans_suc steps w q n) ∙ e in
    let a : IsAfter o 1 v (suc n) = is_after o 1 None v (suc n) t i in
    (n, refl, subst (λ m. Runs w (steps q) v m) (omega (arith, a.paid)) (runs_of w (steps q) n v a.cost a.last a.is))

pub one_answer : (w : Place) (q : Query) (v u : AnswerTo q) (c d : ℕ) → IsAnswered w q v c → IsAnswered w q u d → AreOne v u c d
one_answer w q v u c d h k =
    let x : plain_answer steps w q (c + d) ≡ answered v c (h (c + d) (omega arith)).0 = (h (c + d) (omega arith)).1 in
    let y : plain_answer steps w q (c + d) ≡ answered u d (k (c + d) (omega arith)).0 = (k (c + d) (omega arith)).1 in
    record { answer = cc; cost = cc }

pub runs_on : {A B : Type 0} (w : Place) (p : Program A) (k : A → Program B) (v : B) (n : ℕ) → Runs w (p >>= k) v n → RunsOn w p k v n
runs_on w (done u) k v n h = record { value = u; first = 0; second = n; runs = (refl, refl); then_runs = h; paid = omega arith }
runs_on w (refuse r) k v n h = absurd h
runs_on w (ask q f) k v n h =
    let r : RunsOn w (f h.0) k v h.2 = runs_on w (f h.0) k v h.2 h.4 in
    let paid : n ≡ h.1 + h.2 = h.5 in
    let more : h.2 ≡ r.first + r.second = r.paid in
    record { value = r.value; first = h.1 + r.first; second = r.second; runs = (h.0, h.1, r.first, h.3, r.runs, refl); then_runs = r.then_runs; paid = omega (arith, paid, more) }
runs_on w (look r c f) k v n h =
    let s : RunsOn w (f h.0) k v n = runs_on w (f h.0) k v n h.2 in
    record { value = s.value; first = s.first; second = s.second; runs = (h.0, h.1, s.runs); then_runs = s.then_runs; paid = s.paid }

-- the run of one question
pub runs_asked : (w : Place) (q : Query) (v : AnswerTo q) (n : ℕ) → Runs w (asked q) v n → IsAnswered w q v n
runs_asked w q v n h =
    let value : h.0 ≡ v = h.4.0 in
    let rest : h.2 ≡ 0 = h.4.1 in
    let paid : n ≡ h.1 + h.2 = h.5 in
    let same : h.1 ≡ n = omega arith in
    subst (λ m. IsAnswered w q v m) same (subst (λ u. IsAnswered w q u h.1) value h.3)

-- a run comes to one value
pub runs_one : {A : Type 0} (w : Place) (p : Program A) (v u : A) (m n : ℕ) → Runs w p v m → Runs w p u n → v ≡ u
runs_one w (done x) v u m n h k = sym h.0 ∙ k.0
runs_one w (refuse r) v u m n h k = absurd h
runs_one w (ask q f) v u m n h k =
    let one : AreOne h.0 k.0 h.1 k.1 = one_answer w q h.0 k.0 h.1 k.1 h.3 k.3 in
    runs_one w (f k.0) v u h.2 k.2 (subst (λ x. Runs w (f x) v h.2) one.answer h.4) k.4
runs_one w (look r c f) v u m n h k =
    let same : Some h.0 ≡ Some k.0 = sym h.1 ∙ k.1 in
    let one : h.0 ≡ k.0 = cc in
    runs_one w (f k.0) v u m n (subst (λ x. Runs w (f x) v m) one h.2) k.2
