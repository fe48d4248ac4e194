-- A run of a program of the question table that gives a value: what it asks is answered, and what
-- it looks up is there.
use Rattle.std.specs.Prelude.{ℕ, suc, ◌≡◌, ◌+◌, Some}
use Rattle.lk_rulebook.specs.Place.{Place, Entry}
use Rattle.lk_questions.specs.Query.{Query, AnswerTo}
use Rattle.lk_questions.specs.Program.{Program, done, refuse, ask, look, ◌>>=◌}
use Rattle.lk_questions.specs.Table.{steps}
use Rattle.lk_step.specs.Rows.{IsAnswered}

-- p gives v at w, and what it asks costs so much together
abbrev pub Runs : {A : Type 0} → Place → Program A → A → ℕ → Type 0
Runs w (done u) v n = (u ≡ v) × (n ≡ 0)
Runs w (refuse r) v n = ⊥
Runs w (ask q k) v n =
    (u : AnswerTo q) × (c : ℕ) × (m : ℕ) × IsAnswered w q u c × Runs w (k u) v m × (n ≡ c + m)
Runs w (look r c k) v n = (e : Entry) × (w.means c ≡ Some e) × Runs w (k e) v n

-- an answer comes of a run of the question's row, which costs one less
abbrev pub IsOpened : Place → (q : Query) → AnswerTo q → ℕ → Type 0
IsOpened w q v c = (n : ℕ) × (c ≡ suc n) × Runs w (steps q) v n

-- one answer, at one cost
pub record AreOne {A : Type 0} (v u : A) (c d : ℕ) : Type 0 where
  pub answer : v ≡ u
  pub cost : c ≡ d

-- the one program, and then the other, by what it gives
abbrev pub and_then : {A B : Type 0} → Program A → (A → Program B) → Program B
and_then p k = p >>= k

-- the runs of both
pub record RunsOn {A B : Type 0} (w : Place) (p : Program A) (k : A → Program B) (v : B) (n : ℕ)
    : Type 0 where
  pub value : A
  pub first : ℕ
  pub second : ℕ
  pub runs : Runs w p value first
  pub then_runs : Runs w (k value) v second
  pub paid : n ≡ first + second
