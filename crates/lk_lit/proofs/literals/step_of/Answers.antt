use Rattle.std.proofs.Common.{refl, sym, ap, ◌∙◌}
use Rattle.lk_tree.specs.Spine.{head}
use Rattle.lk_questions.specs.LiteralLines.{step_of}
use Rattle.lk_store.specs.Contents.{tree_at}
use Rattle.lk_lit.proofs.Halves.{no_step_at}
use Rattle.lk_lit.proofs.Parts.{part_now, nothing}
use Rattle.lk_lit.proofs.literals.step_of.Goals as goal

pub returns-in_default : goal.returns-in_default
returns-in_default g c =
    let d = g.L.Terms.contents c.args.looks.now in
    let e = tree_at d c.args.e in
    let none = no_step_at d e (head e) c.view.result c.in_default.not-Const
    (c.view.ensures.tree ∙ c.head-front.ensures.is) in
    part_now c.args.e (λ t. step_of (t c.args.e) (head (t c.args.e))) (sym none) (nothing c.args.e c.requires)
