-- The result sorts of auxiliary types, one after another.
use Rattle.std.proofs.Common.{◌≡◌, true, false, List, ◌∷◌, ap, ◌∙◌}
use Rattle.lk_tree.specs.Tree.{Level}
use Rattle.lk_tree.specs.LevelTest.{level_test}
use Rattle.lk_tree.specs.declared.rule.Rule.TheVariants.{BlockShape}
use Rattle.lk_questions.specs.Program.{done, refuse, ◌>>=◌}
use Rattle.lk_ask.specs.declared.stop.Stop.{Stop}
use Rattle.lk_ask.specs.declared.stop.Stop.TheVariants.{No, Spent, NoMemory}
use Rattle.lk_declaration.specs.Courses.{Refuses}
use Rattle.lk_questions.specs.Levels.{tested}
use Rattle.lk_questions.specs.Steps.{given}
use Rattle.lk_inductive.specs.Enlarged.{Aux}
use Rattle.lk_inductive.specs.Nested.{aux_sorts}

module _ (l : Level) (left : List Aux) (a : Aux) (more : List Aux) (split : left ≡ a ∷ more) where
  pub sorts_next : tested (level_test a.sort l) ≡ done true → aux_sorts l left ≡ aux_sorts l more
  sorts_next h = ap (aux_sorts l) split ∙ ap (λ p. p >>= λ equal. given equal BlockShape (aux_sorts l more)) h

  pub sorts_differ : tested (level_test a.sort l) ≡ done false → aux_sorts l left ≡ refuse BlockShape
  sorts_differ h = ap (aux_sorts l) split ∙ ap (λ p. p >>= λ equal. given equal BlockShape (aux_sorts l more)) h

  pub sorts_stop : (stop : Stop) → Refuses (tested (level_test a.sort l)) stop → Refuses (aux_sorts l left) stop
  sorts_stop (No r) h = ap (aux_sorts l) split ∙ ap (λ p. p >>= λ equal. given equal BlockShape (aux_sorts l more)) h
  sorts_stop Spent h = absurd h
  sorts_stop NoMemory h = tt
