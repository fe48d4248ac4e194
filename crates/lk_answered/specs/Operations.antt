-- Units that give an operation on numbers with laws, and keep to them: they have a section that holds,
-- or are answered yes.
use Rattle.std.specs.Prelude.{ℕ, ◌≡◌, ◌<◌, ◌⊎◌, true}
use Rattle.lk_rulebook.specs.Units.{Library}
use Rattle.lk_questions.specs.Table.{steps}
use Rattle.lk_verdict.specs.Operations.{GivesOperation}
use Rattle.lk_verdict.specs.Verdict.{says_yes, plain_verdict}
use Rattle.lk_written.specs.Section.{Section, section_holds}

-- unit m has a section that holds, or is answered yes under some budget
abbrev pub IsShown : Library → ℕ → Type 0
IsShown us m =
    ((s : Section) × (section_holds us m s ≡ true))
    ⊎ ((budget : ℕ) × (plain_verdict steps us m budget ≡ says_yes))

-- so is each unit before unit n that gives such an operation, each in either way
abbrev pub OperationsShown : Library → ℕ → Type 0
OperationsShown us n = (m : ℕ) → m < n → GivesOperation us m → IsShown us m
