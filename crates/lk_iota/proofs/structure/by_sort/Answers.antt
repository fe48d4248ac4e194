use Rattle.std.proofs.Common.{subst}
use Rattle.lk_iota.specs.Expansions.{by_sort}
use Rattle.lk_iota.specs.Iotas.{Reduces}
use Rattle.lk_iota.proofs.structure.by_sort.Goals as goal

pub returns-in-Sort : goal.returns-in-Sort
returns-in-Sort g c p k is only =
    subst (λ S. Reduces g.L.Terms.contents g.L.Terms.rest g.L.Looks.sight c.args.looks.now
    c.by_level.new.looks c.by_level.result
    (λ t. by_sort (t c.args.e) p (t c.args.m) k (t c.args.ty) S))
    c.in-Sort.ensures.tree (c.by_level.ensures p k is only)
