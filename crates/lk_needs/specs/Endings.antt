-- Names of recursors: a name with one more component, which is of one of two kinds.
use Rattle.std.specs.Prelude.{ℕ, suc, ◌≡◌, ◌<◌, ◌≤◌, List, [], ◌∷◌, length, codes, All}
use Rattle.std.specs.Prelude.{Option, Some, None}
use Rattle.lk_tree.specs.Tree.{Name}
use Rattle.lk_inductive.specs.Recursors.{rec_name}
use Rattle.lk_inductive.specs.Restore.{digits, rec_numbered}
use Rattle.lk_store.specs.Contents.{Contents, name_at}
use Rattle.lk_needs.specs.declared.endings.Ending.{Ending}
use Rattle.lk_needs.specs.declared.endings.Ending.TheVariants.{Plain, Numbered}

-- the byte is a decimal digit
abbrev pub IsDigit : ℕ → Type 0
IsDigit b = (48 ≤ b) × (b ≤ 57)

-- the bytes are the digits of a number from one on, without zeros before them
abbrev pub IsPositive : List ℕ → Type 0
IsPositive [] = ⊥
IsPositive (b ∷ bs) = (49 ≤ b) × (b ≤ 57) × All IsDigit bs

-- the word is rec_1 or rec_2 and so on
abbrev pub IsNumberedWord : List ℕ → Type 0
IsNumberedWord w =
    (k : ℕ) × (114 ∷ 101 ∷ 99 ∷ 95 ∷ digits (suc (suc k)) (suc k) [] ≡ w)

abbrev pub EndsIn : Ending → List ℕ → Type 0
EndsIn Plain w = w ≡ codes "rec"
EndsIn Numbered w = IsNumberedWord w

-- the second name is the first with such a component more
abbrev pub Follows : Ending → Name → Name → Type 0
Follows Plain p x = rec_name p ≡ x
Follows Numbered p x = (k : ℕ) × (rec_numbered p (suc k) ≡ x)

-- the number of the name before, where there is one
abbrev pub IsParent : Contents → Ending → Name → Option ℕ → Type 0
IsParent c e x (Some p) = (p < length c.names) × Follows e (name_at c p) x
IsParent c e x None = (p : Name) → Follows e p x → ⊥
