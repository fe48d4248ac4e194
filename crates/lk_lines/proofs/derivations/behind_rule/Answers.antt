use Rattle.std.proofs.Common.{ℕ, List, [], ◌∷◌, ◌++◌, Result, subst}
use Rattle.lk_token.specs.Fields.{fields_of}
use Rattle.lk_lines.specs.declared.dues.Due.TheVariants.{Known, Rest}
use Rattle.lk_lines.specs.declared.dues.Numbering.TheVariants.{Expressions, Lines}
use Rattle.lk_lines.specs.declared.line.DerivationLine.{DerivationLine}
use Rattle.lk_lines.specs.declared.rules.Beside.{Beside}
use Rattle.lk_lines.specs.declared.steps.FieldError.{FieldError}
use Rattle.lk_lines.specs.FileNumbers.{NumberView}
use Rattle.lk_lines.specs.Reading.{read_dues}
use Rattle.lk_lines.specs.Rules.{beside_dues}
use Rattle.lk_lines.specs.Told.{Gives}
use Rattle.lk_lines.specs.Views.{rule_values}
use Rattle.lk_lines.proofs.derivations.behind_rule.Goals as goal

-- what a rule with this beside its trees gives
abbrev GivesBehind : {N : Type 0} → NumberView N → List ℕ → List (List ℕ) → Result (DerivationLine N) FieldError → Beside → Type 0
GivesBehind view text fields result b = Gives (rule_values view) result
    (read_dues view.limit (Known Expressions ∷ Known Expressions ∷ (beside_dues b ++ Rest Lines ∷ [])) text fields)

pub returns-in-Nothing-clause-values : goal.returns-in-Nothing-clause-values
returns-in-Nothing-clause-values g c text =
    subst (GivesBehind g.N.FileNumber.view text (fields_of c.args.line.now) _) c.in-Nothing.ensures (c.plain.ensures.values text)

pub returns-in-Local-clause-values : goal.returns-in-Local-clause-values
returns-in-Local-clause-values g c text =
    subst (GivesBehind g.N.FileNumber.view text (fields_of c.args.line.now) _) c.in-Local.ensures (c.with_beside.ensures.values text)

pub returns-in-Place-clause-values : goal.returns-in-Place-clause-values
returns-in-Place-clause-values g c text =
    subst (GivesBehind g.N.FileNumber.view text (fields_of c.args.line.now) _) c.in-Place.ensures (c.with_beside-in-Place.ensures.values text)
