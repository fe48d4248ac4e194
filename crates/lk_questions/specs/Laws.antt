-- What the laws of plain answers say.
use Rattle.std.specs.Prelude.{ℕ, ◌≡◌, ◌<◌, ◌≤◌, ◌⊎◌, Option, Some, None}
use Rattle.lk_tree.specs.Tree.{Name}
use Rattle.lk_rulebook.specs.Place.{Place, Entry}
use Rattle.lk_questions.specs.Answer.{Outcome, answered, refused, spent}

-- g answers v at cost c exactly where the budget is at least c, and is spent below
pub record IsSteady {A : Type 0} (g : ℕ → Outcome A) (budget : ℕ) (v : A) (c : ℕ) (t : Option ℕ) : Type 0 where
  pub paid : c ≤ budget
  pub enough : (b : ℕ) → c ≤ b → g b ≡ answered v c t
  pub too_little : (b : ℕ) → b < c → g b ≡ spent

-- the greatest number of a unit that was looked at is below n
abbrev pub IsBelow : Option ℕ → ℕ → Type 0
IsBelow None n = Unit {0}
IsBelow (Some t) n = t < n

-- what a unit below n gives at w it gives at w' too
abbrev pub Keeps : ℕ → Place → Place → Type 0
Keeps n w w' = (c : _) (e : Entry) → w.means c ≡ Some e → w.origin c < n → (w'.means c ≡ Some e) × (w'.origin c ≡ w.origin c)

-- each name is given with the same contents at both places, or refused by the same flaw; the units that give it may differ
abbrev pub GivesTheSame : Place → Place → Type 0
GivesTheSame w w' = (c : Name) → (w.means c ≡ w'.means c) × (w.flaw c ≡ w'.flaw c)

-- one answer at one cost, one refusal, or both are spent; the units that were looked at may differ
abbrev pub SameOutcome : {A : Type 0} → Outcome A → Outcome A → Type 0
SameOutcome (answered v c t) (answered u d s) = (v ≡ u) × (c ≡ d)
SameOutcome (refused r) (refused s) = r ≡ s
SameOutcome spent spent = Unit {0}
SameOutcome _ _ = ⊥

-- what g says with a greater budget, where it says anything with a smaller one, is the same
abbrev pub IsSettled : {A : Type 0} → (ℕ → Outcome A) → Type 0
IsSettled g = (b more : ℕ) → b ≤ more → (g b ≡ spent) ⊎ (g more ≡ g b)
