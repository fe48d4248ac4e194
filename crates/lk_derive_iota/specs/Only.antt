-- The constructor of the only rule of a recursor.
use Rattle.std.specs.Prelude.{◌≡◌, List, [], ◌∷◌, Option, Some, None}
use Rattle.lk_rulebook.specs.Place.{Place, Recursor, RecRule, a_ctor}
use Rattle.lk_questions.specs.Iota.{CtorApp}
use Rattle.lk_constructor.specs.Looking.{ctor_at}

-- the one that it means at a place
abbrev pub only_at : Place → List RecRule → Option CtorApp
only_at w [] = None
only_at w (rule ∷ []) = ctor_at w rule.ctor [] []
only_at w (r ∷ s ∷ rs) = None

-- the one rule of r is for the constructor b
pub record IsOnly (w : Place) (r : Recursor) (b : CtorApp) : Type 0 where
  pub rule : RecRule
  pub one : r.rules ≡ rule ∷ []
  pub named : rule.ctor ≡ b.name
  pub given : w.means b.name ≡ Some b.entry
  pub kind : b.entry.kind ≡ a_ctor b.block b.ind b.ctor

abbrev pub IfOnly : Place → Recursor → Option CtorApp → Type 0
IfOnly w r None = Unit {0}
IfOnly w r (Some b) = IsOnly w r b
