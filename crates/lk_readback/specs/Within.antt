-- The limits on lines, items and input that a canonical text keeps, or not.
use Rattle.std.specs.Prelude.{ℕ, ◌<◌, ◌≤◌, ◌^◌, ◌+◌, ◌-◌, List, [], ◌∷◌, length, All}
use Rattle.lk_rulebook.specs.Place.{BlockType}
use Rattle.lk_rulebook.specs.Units.{LibraryUnit, of_decl, of_block}
use Rattle.lk_book.specs.File.{lines_of}
use Rattle.lk_trim.specs.Written.{Written, beginning}
use Rattle.lk_trim.specs.Whole.{Kept, write_all, canonical_text}

abbrev pub ctor_count : List BlockType → ℕ
ctor_count [] = 0
ctor_count (t ∷ ts) = length t.ctors + ctor_count ts

-- how many lines declare a unit
abbrev pub member_count : LibraryUnit → ℕ
member_count (of_decl d) = 1
member_count (of_block b rs) = length b.types + (ctor_count b.types + length rs)

abbrev pub members_count : List Kept → ℕ
members_count [] = 0
members_count (k ∷ ks) = member_count k.unit + members_count ks

-- how many lines define a number: the anonymous name and level 0 have none
abbrev pub defined_count : Written → ℕ
defined_count w = (length w.names - 1) + ((length w.levels - 1) + (length w.trees + w.rules))

-- how many items there are, which budgets are not
abbrev pub item_count : List Kept → ℕ
item_count ks = defined_count (write_all ks beginning).written + members_count ks

pub record IsWithinLimits (ks : List Kept) : Type 0 where
  pub lines : All (λ line. length line ≤ 2 ^ 24) (lines_of (canonical_text ks))
  pub input : length (canonical_text ks) ≤ 2 ^ 40
  pub items : item_count ks < 2 ^ 32
