-- Where nothing is: what stands for the values that nobody makes.
use Rattle.std.specs.Prelude.{None, []}
use Rattle.lk_store.specs.declared.tables.Tables.{Tables}
use Rattle.lk_store.specs.Store.{no_tables}
use Rattle.lk_env.specs.declared.entry.Partial.TheVariants.{Nothing}
use Rattle.lk_env.specs.declared.entry.Site.{Site}
use Rattle.lk_env.specs.StoredLibrary.{StoredLibrary}
use Rattle.lk_env.specs.StoredScope.{StoredScope}
use Rattle.lk_meter.specs.declared.meter.Meter.{Meter}

abbrev pub no_library : StoredLibrary
no_library = record { tables = no_tables; units = []; budgets = [] }

abbrev pub no_place : StoredScope × Site × Tables
no_place = (
  record { tables = no_tables; units = []; library = no_library; auxiliary = [] },
  record { unit = 0; partial = Nothing },
  no_tables,
)

abbrev pub no_meter : Meter
no_meter = record { left = 0; turns = 0; last = None }
