-- Names by their numbers.
use Rattle.std.specs.Prelude.{ℕ, List, map, Bool, nat_eq}
use Rattle.std.specs.List.{list_any}
use Rattle.lk_tree.specs.Tree.{Name}
use Rattle.lk_store.specs.Contents.{Contents, name_at}

-- one of the numbers is q
abbrev pub any_number : ℕ → List ℕ → Bool
any_number q ks = list_any (λ k. nat_eq q k) ks

-- the names that the numbers stand for
abbrev pub names_at : Contents → List ℕ → List Name
names_at c ks = map (name_at c) ks
