-- A walk over the parts of a tree, and what is known on its way.
use Rattle.std.specs.Prelude.{◌≡◌, ℕ, ◌<◌, List, length, All, map, not, Option, IfSome, true}
use Rattle.lk_tree.specs.Tree.{Name}
use Rattle.lk_store.specs.Contents.{Contents, name_at}
use Rattle.lk_store.specs.declared.memory.NoMemory.{NoMemory}
use Rattle.lk_seek.specs.Sought.{Sought, truth}
use Rattle.lk_scan.specs.declared.declared.Declared.{Declared}
use Rattle.lk_scan.specs.declared.seen.Seen.{Seen}
use Rattle.lk_scan.specs.declared.part.TermPart.{TermPart}
use Rattle.lk_scan.specs.declared.part.Met.{Met}
use Rattle.lk_scan.specs.Seen.{has_number, any_number}
use Rattle.lk_scan.specs.Parts.{IsPartIn, part_over, part_cost}

-- the names of declared level parameters
abbrev pub names_of : Contents → Declared → List Name
names_of c d = map (name_at c) d.numbers.items

-- a set that there is has just these numbers
abbrev pub IsSetOf : Option Seen → List ℕ → Type 0
IsSetOf set ks = IfSome set (λ seen. (q : ℕ) → has_number seen q ≡ any_number q ks)

-- the numbers are those of names, and a set that there is has just them
pub record IsDeclared (c : Contents) (d : Declared) : Type 0 where
  pub known : All (λ n. n < length c.names) d.numbers.items
  pub is_set : IsSetOf d.set d.numbers.items

-- each part that was looked through has no level parameter but these
abbrev pub AreOver : Contents → List Name → List Met → Type 0
AreOver c ps met = All (λ (m : Met). part_over c ps m.part ≡ true) met

-- the same of what was met under declared level parameters
abbrev pub AreWithin : Contents → Declared → List Met → Type 0
AreWithin c d met = AreOver c (names_of c d) met

-- what the walk looks for: whether a part has a level parameter that is none of the names
abbrev pub undeclared : Contents → List Name → Sought TermPart NoMemory
undeclared c ps = record {
  findings = truth;
  found_in = λ p. not (part_over c ps p);
  is_in = IsPartIn c;
  cost = part_cost c;
}
