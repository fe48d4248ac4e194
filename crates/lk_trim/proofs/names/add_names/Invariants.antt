use Rattle.std.proofs.Common.{◌≡◌, ◌<◌, ◌++◌, length, map}
use Rattle.std.specs.Prelude.{All}
use Rattle.lk_store.specs.Contents.{name_at}
use Rattle.lk_trim.specs.Written.{fields}
use Rattle.lk_trim.specs.Names.{name_numbers}
use Rattle.lk_trim.specs.Stored.{written_at}
use Rattle.lk_trim.proofs.names.add_names.Given as goal

abbrev pub invariant-loop-name : goal.invariant-loop-name
invariant-loop-name g l =
    let c = g.T.Terms.contents l.store in
    let w = written_at c l.numbers in
    record {
      known : All (λ n. n < length c.names) l.rest;
      text : l.out.items ++ fields (name_numbers w (map (name_at c) l.rest)) ≡ l.fn.out.items ++ fields (name_numbers w (map (name_at c) l.names));
    }

abbrev pub decreases-loop-name : goal.decreases-loop-name
decreases-loop-name g l = length l.rest
