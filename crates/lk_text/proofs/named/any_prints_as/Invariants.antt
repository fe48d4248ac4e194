use Rattle.std.proofs.Common.{◌≡◌, ◌<◌, length, map}
use Rattle.std.specs.Prelude.{All}
use Rattle.std.specs.List.{list_any}
use Rattle.lk_store.specs.Contents.{name_at}
use Rattle.lk_store.specs.Store.{contents_of}
use Rattle.lk_text.specs.Named.{prints_as}
use Rattle.lk_text.proofs.named.any_prints_as.Given as goal

abbrev pub invariant-loop-name : goal.invariant-loop-name
invariant-loop-name l =
    let c = contents_of l.library.tables in
    record {
      left : list_any (prints_as l.text) (map (name_at c) l.rest)
          ≡ list_any (prints_as l.text) (map (name_at c) l.names);
      known : All (λ n. n < length c.names) l.rest;
    }

abbrev pub decreases-loop-name : goal.decreases-loop-name
decreases-loop-name l = length l.rest
