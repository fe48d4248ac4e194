-- How much a store has of each kind.
use Rattle.std.specs.Prelude.{length}
use Rattle.lk_store.specs.declared.sizes.Sizes.{Sizes}
use Rattle.lk_store.specs.declared.tables.Tables.{Tables}

abbrev pub sizes_of : Tables → Sizes
sizes_of r = record {
  numbers = length r.numbers;
  names = length r.names;
  texts = length r.texts;
  levels = length r.levels;
  lists = length r.lists;
  terms = length r.trees;
}
