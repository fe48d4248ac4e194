-- A list store: the store below, and the rows of the trees that were made.
use Rattle.std.specs.Prelude.{List}
use Rattle.store_bench.specs.declared.list_store.Listed.{Listed}

pub record Lists (T : Type 0) : Type 0 where
  pub store : T
  pub rows : List Listed
