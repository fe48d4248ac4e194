use Rattle.std.proofs.Common.{ap}
use Rattle.lk_tree.specs.Spine.{head, args}
use Rattle.lk_questions.specs.Erased.{a_tree, erased}
use Rattle.lk_questions.specs.Iota.{core_field}
use Rattle.lk_store.specs.Contents.{name_at, tree_at}
use Rattle.lk_ask.proofs.Settles.{behind}
use Rattle.lk_ask.proofs.Steps.{carried, same_steps}
use Rattle.lk_constructor.specs.Applied.{IsAppliedIf}
use Rattle.lk_constructor.specs.Looking.{app_at}
use Rattle.lk_proj.proofs.reduce.by_head.Goals as goal

pub returns-in-Ok : goal.returns-in-Ok
returns-in-Ok g c =
    let before = g.L.Terms.contents c.args.looks.now in
    let after = g.L.Looks.sight (g.L.Terms.rest c.look_head.new.looks) in
    let w = (g.L.Looks.sight (g.L.Terms.rest c.args.looks.now)).basis.place in
    let p = c.args.p in
    let m = tree_at before c.args.e in
    let found = c.in-Ok.found in
    let finds = c.in-Ok.ensures.finds (args m) in
    let b = app_at w (head m) (args m) in
    let is = carried (λ d y. IsAppliedIf d y.library (args (tree_at d c.args.e)) found b)
    c.look_head.ensures.contents c.look_head.ensures.stays finds.is in
    behind a_tree (λ o. core_field (tree_at before p.whole) (name_at before p.structure) p.field o)
    found
    finds.settles (same_steps (ap (λ d. erased after.basis.place a_tree after.last
    (core_field (tree_at d p.whole) (name_at d p.structure) p.field b))
    c.look_head.ensures.contents)
    (c.by_constructor.ensures b is))
