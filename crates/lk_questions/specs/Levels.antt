-- Levels compared. The test of two levels is a parameter: what compares lists of levels is the same for each.
use Rattle.std.specs.Prelude.{Bool, true, false, nat_eq, List, [], ◌∷◌, length, Option, Some, None, if◌then◌else◌}
use Rattle.lk_tree.specs.Tree.{Level}
use Rattle.lk_tree.specs.Level.{SameLevel}
use Rattle.lk_tree.specs.LevelTest.{level_test}
use Rattle.lk_tree.specs.declared.rule.Rule.TheVariants.{LevelWidth}
use Rattle.lk_rulebook.specs.Place.{Place}
use Rattle.lk_questions.specs.Program.{Program, done, refuse, ◌>>=◌}
use Rattle.lk_questions.specs.Sound.{IsSound, IfYes}

-- whether two levels are equal
abbrev pub LevelTest : Type 0
LevelTest = Level → Level → Program Bool

-- what a test of levels owes: where it says yes they are equal under every assignment
abbrev pub IsLevelTest : LevelTest → Type 0
IsLevelTest test = (w : Place) (l m : Level) → IsSound w (test l m) (λ equal. IfYes equal (SameLevel l m))

abbrev pub tested : Option Bool → Program Bool
tested (Some equal) = done equal
tested None = refuse LevelWidth

-- the complete test
abbrev pub complete_test : LevelTest
complete_test l m = tested (level_test l m)

-- pair by pair, up to the first unequal one
abbrev pub level_pairs_equal : LevelTest → List Level → List Level → Program Bool
level_pairs_equal test [] [] = done true
level_pairs_equal test (l ∷ ls) (m ∷ ms) = do
  equal ← test l m
  if equal then level_pairs_equal test ls ms else done false
level_pairs_equal test [] (m ∷ ms) = done false
level_pairs_equal test (l ∷ ls) [] = done false

-- lists of different lengths are unequal, and no level is compared
abbrev pub levels_equal : LevelTest → List Level → List Level → Program Bool
levels_equal test ls ms = if nat_eq (length ls) (length ms) then level_pairs_equal test ls ms else done false
