-- What names mean something in while a unit is at work: tables in which all stands; the units of
-- the library, with those of auxiliary types behind them; the library; and these auxiliary units.
use Rattle.std.specs.Prelude.{List}
use Rattle.lk_store.specs.declared.tables.Tables.{Tables}
use Rattle.lk_env.specs.declared.unit.Unit.{Unit as StoredUnit}
use Rattle.lk_env.specs.StoredLibrary.{StoredLibrary}

pub record StoredScope : Type 0 where
  pub tables : Tables
  pub units : List StoredUnit
  pub library : StoredLibrary
  pub auxiliary : List StoredUnit

-- what a scope lends: all units there
abbrev pub lent_by : StoredScope → StoredLibrary
lent_by s = record { tables = s.tables; units = s.units; budgets = s.library.budgets }
