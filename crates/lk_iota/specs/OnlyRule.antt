-- The constructor of the only rule of a recursor.
use Rattle.std.specs.Prelude.{◌≡◌, List, [], ◌∷◌, length, Option, Some, None}
use Rattle.lk_rulebook.specs.Place.{Place, RecRule}
use Rattle.lk_questions.specs.Iota.{CtorApp}
use Rattle.lk_env.specs.declared.unit.RecursorRule.{RecursorRule}
use Rattle.lk_store.specs.Contents.{Contents}
use Rattle.lk_ask.specs.Looks.{Sight}
use Rattle.lk_constructor.specs.declared.constructor.AppliedConstructor.{AppliedConstructor}
use Rattle.lk_constructor.specs.Applied.{IsApplied}
use Rattle.lk_constructor.specs.Looking.{ctor_at}
use Rattle.lk_iota.specs.Redexes.{PlainRedex}

-- the one that it means at a place
abbrev pub only_at : Place → List RecRule → Option CtorApp
only_at w [] = None
only_at w (rule ∷ []) = ctor_at w rule.ctor [] []
only_at w (r ∷ s ∷ rs) = None

-- k is the constructor of the only rule of this recursor, and the numbers stand for it
pub record IsOnlyOf {S R B : Type 0} (contents : S → Contents) (rest : S → R) (sight : R → Sight B)
    (s : S) (u : AppliedConstructor) (p : PlainRedex) (k : CtorApp) : Type 0 where
  pub only : only_at (sight (rest s)).basis.place p.recursor.rules ≡ Some k
  pub stands : IsApplied (contents s) (sight (rest s)).basis.library [] u k
