-- The hash of a list of names.
use Rattle.std.specs.Prelude.{ℕ, List, fold}
use Rattle.lk_store.specs.Hashes.{mixed, started}

abbrev pub hash_of_names : ℕ → List ℕ → ℕ
hash_of_names seed names = fold mixed (started seed) names
