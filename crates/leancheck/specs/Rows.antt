-- How a program finds the plain verdict of a unit: are its names new, is it without flaw in itself, and then the questions.
use Rattle.std.specs.Prelude.{ℕ, suc, [], Some, None, if◌then◌else◌}
use Rattle.lk_tree.specs.declared.rule.Rule.TheVariants.{DuplicateName}
use Rattle.lk_rulebook.specs.Place.{Place}
use Rattle.lk_rulebook.specs.Units.{Decl, LibraryUnit, of_decl, of_block, Library, members_of, place_of}
use Rattle.lk_rulebook.specs.Scan.{are_new, own_scan}
use Rattle.lk_questions.specs.Answer.{Outcome, outcome_of, plain_answer}
use Rattle.lk_questions.specs.Erased.{Out, finished, stopped, used_up}
use Rattle.lk_questions.specs.Declarations.{unit_steps}
use Rattle.lk_questions.specs.Table.{steps}
use Rattle.lk_verdict.specs.Verdict.{verdict_by}
use Rattle.lk_verdict.specs.Told.{Verdict, accepted, rejected, out_of_steps, told}
use Rattle.lk_env.specs.declared.entry.Partial.TheVariants.{Nothing}
use Rattle.lk_env.specs.Places.{partial_beside}
use Rattle.lk_block.specs.Stages.{Places, block_stages}

abbrev pub verdict_of : {A : Type 0} → Outcome A → Verdict
verdict_of o = told (verdict_by o)

unfoldable pub questions_of : Place → ℕ → Decl → Verdict
questions_of w budget d = verdict_of (outcome_of w (plain_answer steps w) budget (unit_steps d))

-- the verdict that the outcome of a block's stages gives
abbrev pub stages_verdict : Out → Verdict
stages_verdict (finished v left last) = accepted
stages_verdict (stopped r) = rejected r
stages_verdict used_up = out_of_steps

-- `places` tells what names mean, by what is partial of the unit, and by the auxiliary types beside it
abbrev pub asked_of : Places → ℕ → LibraryUnit → Verdict
asked_of places budget (of_decl d) = questions_of (places Nothing []) budget d
asked_of places budget (of_block b rs) = stages_verdict (block_stages steps places (suc budget) b rs budget)

-- the rule that its own lines break comes first
abbrev pub scanned_of : Places → ℕ → LibraryUnit → Verdict
scanned_of places budget u = elim (own_scan u) [ Some r ↦ rejected r | None ↦ asked_of places budget u ]

-- the verdict of u as unit n
abbrev pub row_verdict : Library → ℕ → ℕ → LibraryUnit → Verdict
row_verdict us budget n u = if are_new us n (members_of u) then scanned_of (λ p aux. place_of us n (partial_beside u p aux)) budget u else rejected DuplicateName
