use Rattle.lk_store.specs.Contents.{level_at, tree_at}
use Rattle.lk_type.specs.Types.{Infers}
use Rattle.lk_type.proofs.Types.{pi_sorted_is}
use Rattle.lk_type.proofs.binders.pi_domain_sort.Goals as goal

pub returns-in-Sort : goal.returns-in-Sort
returns-in-Sort g c =
    let before = tree_at (g.L.Terms.contents c.args.looks.now) in
    pi_sorted_is (λ p. Infers g.L.Terms.contents g.L.Terms.rest g.L.Looks.sight c.args.looks.now c.pi_body.new.looks c.pi_body.result (λ t. p))
    (before c.args.domain) (before c.args.body) (before c.args.e) (level_at (g.L.Terms.contents c.args.looks.now) c.in-Sort.field-0)
    c.in-Sort.ensures.tree c.pi_body.ensures
