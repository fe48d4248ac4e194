-- The numbers that were seen.
use Rattle.std.specs.Prelude.{ℕ, List, Bool, nat_eq}
use Rattle.std.specs.List.{list_any}
use Rattle.std.specs.HashSet.{contains}
use Rattle.lk_scan.specs.declared.seen.Seen.{Seen}

abbrev pub has_number : Seen → ℕ → Bool
has_number s q = contains nat_eq s.numbers q

-- one of the numbers is q
abbrev pub any_number : ℕ → List ℕ → Bool
any_number q ks = list_any (λ k. nat_eq q k) ks
