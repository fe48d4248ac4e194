use Rattle.std.proofs.Common.{◌≡◌, length}
use Rattle.lk_store.specs.Contents.{Extends}
use Rattle.lk_subst.specs.Parameters.{putting, ArePut}
use Rattle.lk_subst.proofs.by_parts.put_all.Given as goal

abbrev pub invariant-each : goal.invariant-each
invariant-each g l =
    let c = g.T.Terms.contents l.fn.terms in
    record {
      grown : Extends c (g.T.Terms.contents l.terms);
      rest : g.T.Terms.rest l.terms ≡ g.T.Terms.rest l.fn.terms;
      count : length l.made.items ≡ l.i;
      puts : ArePut (putting c l.params l.values) (g.T.Terms.contents l.terms) l.met l.made.items;
    }
