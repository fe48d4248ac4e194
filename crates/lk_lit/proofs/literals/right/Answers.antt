use Rattle.std.proofs.Common.{ap, ◌∙◌}
use Rattle.lk_tree.specs.Spine.{head}
use Rattle.lk_questions.specs.Erased.{truth, erased}
use Rattle.lk_questions.proofs.Continuing.{then_is}
use Rattle.lk_questions.specs.LiteralLines.{same_second, step_of, same_numbers}
use Rattle.lk_questions.specs.Pairs.{◌or_else◌, ◌or_line◌}
use Rattle.lk_store.specs.Contents.{tree_at}
use Rattle.lk_ask.proofs.LineSteps.{same_line}
use Rattle.lk_lit.specs.Literals.{after_right}
use Rattle.lk_lit.proofs.Halves.{begins_with, part_on}
use Rattle.lk_lit.proofs.literals.right.Goals as goal

pub returns : goal.returns
returns g c =
    let s = g.L.Looks.sight (g.L.Terms.rest c.args.looks.now) in
    let a = tree_at (g.L.Terms.contents c.args.looks.now) c.args.a in
    let b = tree_at (g.L.Terms.contents c.args.looks.now) c.args.b in
    let m = tree_at (g.L.Terms.contents c.step_of.new.looks) in
    let part = c.in_ok-part.ensures in
    let made = part_on c.args.b (λ t. step_of (t c.args.b) (head (t c.args.b)))
    (λ p w. after_right p w (m c.args.a) (m c.args.b)) part c.of_right.ensures in
    let a_is = part.keeps.trees.same c.args.a c.requires.a_in in
    let b_is = part.keeps.trees.same c.args.b c.requires.b_in in
    let first = step_of b (head b) in
    same_line (λ p. then_is s.basis.place truth (λ r. (same_second a r or_line same_numbers a b)
    or_else p a b) s.last first
    ∙ ap (erased s.basis.place truth s.last)
    (begins_with first (λ r. same_second a r) (same_numbers a b) (p a b)))
    (rw (a_is, b_is) at made)
