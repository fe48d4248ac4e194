use Rattle.std.proofs.Common.{◌≡◌, ◌<◌, length, map}
use Rattle.std.specs.Prelude.{All}
use Rattle.lk_store.specs.Contents.{name_at}
use Rattle.lk_store.specs.Store.{contents_of}
use Rattle.lk_env.specs.Units.{library_of}
use Rattle.lk_trim.specs.Whole.{own_name}
use Rattle.lk_trim.proofs.whole.own_name.Given as goal

abbrev pub invariant-loop-name : goal.invariant-loop-name
invariant-loop-name l =
    let c = contents_of l.library.tables in
    record {
      known : All (λ n. n < length c.names) l.rest;
      leads : own_name (library_of l.library) l.unit (map (name_at c) l.rest) ≡ own_name (library_of l.library) l.unit (map (name_at c) l.names);
    }

abbrev pub decreases-loop-name : goal.decreases-loop-name
decreases-loop-name l = length l.rest
