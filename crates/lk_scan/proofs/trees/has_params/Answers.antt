use Rattle.std.proofs.Common.{◌&&◌, map, ap, sym, ◌∙◌}
use Rattle.lk_rulebook.specs.Units.{body_trees}
use Rattle.lk_rulebook.specs.Scan.{all_over}
use Rattle.lk_store.specs.Contents.{name_at, tree_at}
use Rattle.lk_store.specs.Store.{contents_of}
use Rattle.lk_env.specs.Units.{declared_levels, body_at}
use Rattle.lk_scan.proofs.Passed.{tree_without}
use Rattle.lk_scan.proofs.trees.has_params.Goals as goal

pub returns-else-has_params : goal.returns-else-has_params
returns-else-has_params c = λ h.
    let d = contents_of c.args.base.now in
    let ps = map (name_at d) (declared_levels c.args.declaration.now) in
    ap (λ b. b && all_over (body_trees ps (body_at d c.args.declaration.now.body))) (tree_without ps (tree_at d c.args.declaration.now.ty) (sym (rw c.from.ensures at c.has_params.ensures) ∙ c.if-has_params.false))
    ∙ c.body_has_params.ensures h ps
