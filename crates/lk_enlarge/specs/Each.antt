-- Several things, one after another, while auxiliary types are added.
use Rattle.std.specs.Prelude.{List, [], ◌∷◌}
use Rattle.lk_questions.specs.Program.{Program, done, ◌>>=◌}
use Rattle.lk_inductive.specs.Enlarged.{Aux}

abbrev pub each : {X Y : Type 0} → (X → List Aux → Program (Y × List Aux)) → List X → List Aux → Program (List Y × List Aux)
each f [] as_ = done ([], as_)
each f (x ∷ xs) as_ = do
  y ← f x as_
  ys ← each f xs y.1
  done (y.0 ∷ ys.0, ys.1)
