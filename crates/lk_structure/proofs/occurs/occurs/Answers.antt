use Rattle.std.proofs.Common.{ap, ◌∙◌, nat_eq, arith}
use Rattle.lk_store.specs.Contents.{tree_at}
use Rattle.lk_structure.proofs.Occurrences.{bounded_is}
use Rattle.lk_structure.proofs.occurs.occurs.Goals as goal

pub returns-clause-ok : goal.returns-clause-ok
returns-clause-ok g c =
    let e = tree_at (g.L.Terms.contents c.args.looks.now) c.args.body in
    ap (λ n. nat_eq n 1) c.loose_bound-bound.ensures ∙ bounded_is e (omega arith)
