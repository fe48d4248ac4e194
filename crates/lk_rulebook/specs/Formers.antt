-- Sorts and Pis.
use Rattle.std.specs.Prelude.{ℕ, ◌≡◌, [], ◌∷◌, Some}
use Rattle.lk_tree.specs.Tree.{Name, Tree, sort, pi, local}
use Rattle.lk_tree.specs.Level.{SameLevel}
use Rattle.lk_tree.specs.Bind.{opened, Fresh}
use Rattle.lk_rulebook.specs.Place.{Place, Entry, Kind, a_type, a_ctor}
use Rattle.lk_rulebook.specs.Rules.{IsDefEq}

-- an inductive type or a constructor
abbrev pub IsOfBlock : Kind → Type 0
IsOfBlock (a_type b t) = Unit {0}
IsOfBlock (a_ctor b t c) = Unit {0}
IsOfBlock _ = ⊥

-- no type of a block is given, and no constructor
abbrev pub GivesNoBlock : Place → Type 0
GivesNoBlock w = (c : Name) (g : Entry) → w.means c ≡ Some g → IsOfBlock g.kind → ⊥

abbrev pub IsFormer : Tree → Type 0
IsFormer (sort l) = Unit {0}
IsFormer (pi A B) = Unit {0}
IsFormer _ = ⊥

-- two Pis that are equal in their parts, the bodies under a fresh Local
pub record SamePi (w : Place) (A B C D : Tree) : Type 0 where
  pub number : ℕ
  pub fresh : Fresh number (pi A B ∷ pi C D ∷ [])
  pub domains : IsDefEq w A C
  pub bodies : IsDefEq w (opened B (local number A)) (opened D (local number A))

-- two Sorts of equal levels, or two Pis of equal parts
abbrev pub SameFormer : Place → Tree → Tree → Type 0
SameFormer w (sort l) (sort m) = SameLevel l m
SameFormer w (pi A B) (pi C D) = SamePi w A B C D
SameFormer w _ _ = ⊥
