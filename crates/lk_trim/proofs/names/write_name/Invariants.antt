use Rattle.std.proofs.Common.{◌≡◌, ◌<◌, length}
use Rattle.std.specs.Prelude.{All}
use Rattle.lk_store.specs.Contents.{name_at}
use Rattle.lk_trim.specs.Names.{write_name}
use Rattle.lk_trim.specs.Stored.{file_at, AreNumbersIn}
use Rattle.lk_trim.proofs.Ancestors.{added}
use Rattle.lk_trim.proofs.names.write_name.Given as goal

abbrev pub invariant-up : goal.invariant-up
invariant-up g l =
    let c = g.T.Terms.contents l.store in
    record {
      at_in : l.at < length c.names;
      known : All (λ n. n < length c.names) l.waiting.items;
      leads : added c l.waiting.items (write_name (name_at c l.at) (file_at c l.writer)) ≡ write_name (name_at c l.name) (file_at c l.writer);
    }

abbrev pub decreases-up : goal.decreases-up
decreases-up g l = length (name_at (g.T.Terms.contents l.store) l.at)

abbrev pub invariant-down : goal.invariant-down
invariant-down g l =
    let c = g.T.Terms.contents l.store in
    record {
      numbers : AreNumbersIn c l.writer.numbers;
      known : All (λ n. n < length c.names) l.waiting.items;
      leads : added c l.waiting.items (file_at c l.writer) ≡ write_name (name_at c l.name) (file_at c l.fn.writer);
    }

abbrev pub decreases-down : goal.decreases-down
decreases-down g l = length l.waiting.items
