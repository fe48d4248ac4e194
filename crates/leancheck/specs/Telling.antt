-- What was told of the parts of a file so far.
use Rattle.std.specs.Prelude.{ℕ, ◌≡◌, ◌++◌, List}
use Rattle.lk_rulebook.specs.Units.{Library}
use Rattle.lk_env.specs.Units.{library_of}
use Rattle.lk_axioms.specs.Lists.{axiom_lists}
use Rattle.leancheck.specs.Ends.{Stand, TellsPart}
use Rattle.leancheck.specs.declared.rounds.Telling.{Telling}

abbrev pub stand_of : Telling → Stand
stand_of t = record {
  begun = t.recheck.begun;
  list = library_of t.recheck.library;
  verdicts = t.recheck.verdicts;
}

-- it has the axioms of its library's units, and checks under this budget
pub record IsTelling (steps : ℕ) (t : Telling) : Type 0 where
  pub budget : t.recheck.budget ≡ steps
  pub axioms : t.axioms ≡ axiom_lists (library_of t.recheck.library)

-- one part more was told
pub record TellsMore (steps : ℕ) (part : Library) (old new : Telling) : Type 0 where
  pub telling : IsTelling steps new
  pub base : new.recheck.library.tables ≡ old.recheck.library.tables
  pub text : List ℕ
  pub told : TellsPart steps (stand_of old) (stand_of new) part text
  pub text_is : new.text.items ≡ old.text.items ++ text
