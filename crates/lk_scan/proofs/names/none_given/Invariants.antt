use Rattle.std.proofs.Common.{◌≡◌, take, true}
use Rattle.std.specs.List.{list_all}
use Rattle.lk_scan.specs.Names.{number_is_new}
use Rattle.lk_scan.proofs.names.none_given.Given as goal

abbrev pub invariant-loop-name : goal.invariant-loop-name
invariant-loop-name l = list_all (number_is_new l.library l.units) (take l.name-index l.names) ≡ true
