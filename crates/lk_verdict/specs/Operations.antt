-- Units that give an operation on numbers that has laws: what is derived after them rests on those laws.
use Rattle.std.specs.Prelude.{ℕ, ◌≡◌, ◌<◌, true, take, Some, None, slice_get}
use Rattle.lk_tree.specs.Tree.{Tree}
use Rattle.lk_tree.specs.Operations.{Op}
use Rattle.lk_rulebook.specs.Place.{Hint}
use Rattle.lk_rulebook.specs.Names.{op_name}
use Rattle.lk_rulebook.specs.NumberLaws.{has_laws}
use Rattle.lk_rulebook.specs.Units.{Decl, as_def, of_decl, Library, flaw_of, first_giving}
use Rattle.lk_questions.specs.Program.{Table}
use Rattle.lk_verdict.specs.Verdict.{says_yes, plain_verdict}

-- unit m gives an operation with laws: it is a def of that name, the first unit that gives the name, and has no flaw
pub record GivesOperation (us : Library) (m : ℕ) : Type 0 where
  pub op : Op
  pub decl : Decl
  pub hint : Hint
  pub value : Tree
  pub lawful : has_laws op ≡ true
  pub at : slice_get us m ≡ Some (of_decl decl)
  pub name_is : op_name op ≡ decl.name
  pub body_is : decl.body ≡ as_def hint value
  pub first : first_giving 0 (take m us) decl.name ≡ None
  pub flawless : flaw_of (of_decl decl) ≡ None

-- each such unit before unit n is answered yes under some budget
abbrev pub OperationsYes : Table → Library → ℕ → Type 0
OperationsYes table us n = (m : ℕ) → m < n → GivesOperation us m → (budget : ℕ) × (plain_verdict table us m budget ≡ says_yes)
