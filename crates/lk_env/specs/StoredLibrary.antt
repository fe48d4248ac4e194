-- A library in a store: its tables, the units whose names and trees are numbers of them, and what
-- lines state of the units' budgets.
use Rattle.std.specs.Prelude.{List}
use Rattle.lk_store.specs.declared.tables.Tables.{Tables}
use Rattle.lk_env.specs.declared.budget.Budget.{Budget}
use Rattle.lk_env.specs.declared.unit.Unit.{Unit as StoredUnit}

pub record StoredLibrary : Type 0 where
  pub tables : Tables
  pub units : List StoredUnit
  pub budgets : List Budget
