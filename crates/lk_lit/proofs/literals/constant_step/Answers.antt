use Rattle.std.proofs.Common.{◌≡◌, Some, sym, ap, subst, ◌∙◌}
use Rattle.lk_tree.specs.Tree.{const}
use Rattle.lk_tree.specs.Spine.{head}
use Rattle.lk_questions.specs.Literals.{literal_step}
use Rattle.lk_questions.specs.LiteralLines.{step_of}
use Rattle.lk_store.specs.Contents.{name_at, list_at, tree_at}
use Rattle.lk_ask.specs.Looks.{entry_at}
use Rattle.lk_ask.proofs.Steps.{carried}
use Rattle.lk_lit.proofs.Heads.{found_part, refused_part}
use Rattle.lk_lit.proofs.literals.constant_step.Goals as goal

pub returns-in-Ok : goal.returns-in-Ok
returns-in-Ok g c =
    let look = c.look.ensures in
    let entry = c.in-Ok.entry in
    let h = c.in-Ok.ensures.found in
    let there = carried (λ k d. entry_at d entry ≡ Some h.entry) look.contents look.stays h.is in
    let at_head = subst (λ k. const (name_at k c.args.name) (list_at k c.args.levels)
    ≡ head (tree_at k c.args.e)) (sym look.contents) c.requires.head_is in
    found_part c.args.e c.args.name c.args.levels entry look.contents look.stays h c.requires.head_is
    (c.begin.ensures h.entry there at_head)

pub returns-in-Err : goal.returns-in-Err
returns-in-Err g c =
    refused_part c.args.e c.args.name c.args.levels c.in-Err.rule c.look.ensures.contents
    c.look.ensures.stays c.in-Err.ensures.refused c.requires.head_is
