-- A table of the texts that a policy lists.
use Rattle.std.specs.Prelude.{ℕ, ◌≡◌, List}
use Rattle.std.specs.Borrow.{Bor}
use Rattle.std.specs.HashSet.{HashSet, contains_by}
use Rattle.std.specs.List.{list_any}
use Rattle.std.specs.Str.{bytes_eq}
use Rattle.lk_text.specs.Policy.{Policy, every_axiom, listed}

-- a name is found where it is one of the texts; where every axiom is allowed, none is looked up
abbrev pub IsTableOf : {S : Type 0} → Policy → HashSet (Bor (List ℕ)) S → Type 0
IsTableOf every_axiom table = Unit {0}
IsTableOf (listed texts) table = (name : List ℕ)
    → contains_by (λ t. bytes_eq name t.now) table ≡ list_any (bytes_eq name) texts
