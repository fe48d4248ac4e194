-- Claims: that two trees are related.
use Rattle.std.specs.Prelude.{◌≡◌, List, [], ◌∷◌}
use Rattle.lk_tree.specs.Tree.{Tree}
use Rattle.lk_tree.specs.WellFormed.{IsWellFormed}
use Rattle.lk_rulebook.specs.Place.{Place}
use Rattle.lk_rulebook.specs.Formers.{IsFormer}
use Rattle.lk_rulebook.specs.Rules.{HasType, Reduces, IsDefEq}

-- e => T, a >> b, a == b
pub data Claim : Type 0 where
  types : Tree → Tree → Claim
  reduces : Tree → Tree → Claim
  equals : Tree → Tree → Claim

-- the claim is derived at w
abbrev pub Derived : Place → Claim → Type 0
Derived w (types e T) = HasType w e T
Derived w (reduces a b) = Reduces w a b
Derived w (equals a b) = IsDefEq w a b

abbrev pub AllDerived : Place → List Claim → Type 0
AllDerived w [] = Unit {0}
AllDerived w (c ∷ cs) = Derived w c × AllDerived w cs

-- its trees are closed and well scoped, and a Sort or a Pi reduces to itself alone
abbrev pub IsShaped : Claim → Type 0
IsShaped (types e T) = IsWellFormed e × IsWellFormed T
IsShaped (reduces a b) = IsWellFormed a × IsWellFormed b × (IsFormer a → a ≡ b)
IsShaped (equals a b) = IsWellFormed a × IsWellFormed b
