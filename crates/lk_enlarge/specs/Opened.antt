-- A constructor of a block past its parameters, whose stated domains stay.
use Rattle.std.specs.Prelude.{List, [], ◌∷◌}
use Rattle.lk_tree.specs.Tree.{Tree, pi, local}
use Rattle.lk_tree.specs.Bind.{opened}
use Rattle.lk_tree.specs.declared.rule.Rule.TheVariants.{BlockShape}
use Rattle.lk_rulebook.specs.Place.{Place}
use Rattle.lk_questions.specs.Program.{Program, done, refuse, ◌>>=◌}
use Rattle.lk_inductive.specs.Enlarged.{Aux, Setting}
use Rattle.lk_inductive.specs.Nested.{nest_past}
use Rattle.lk_inductive.specs.Recursors.{number}
use Rattle.lk_nested.specs.Findings.{Finding, finding}

-- the parameter's Local with the stated domain, and the body, opened with the parameter
abbrev pub past_local : Tree → Tree → Program (Tree × Tree)
past_local P (pi A B) = done (local (number P) A, opened B P)
past_local P _ = refuse BlockShape

abbrev pub past_locals : List Tree → Tree → Program (List Tree × Tree)
past_locals [] e = done ([], e)
past_locals (P ∷ ps) e = past_local P e >>= λ p. past_locals ps p.1 >>= λ t. done (p.0 ∷ t.0, t.1)

-- what is found of a constructor's type
abbrev pub nests_past : Place → Setting → Tree → List Aux → Finding (Tree × List Aux)
nests_past w s e as_ = finding w (nest_past s s.params e as_)
