use Rattle.std.proofs.Common.{None, Ok, ap, subst, ◌∙◌}
use Rattle.std.specs.Prelude.{option_map}
use Rattle.lk_questions.specs.LiteralLines.{same_first, text_second}
use Rattle.lk_questions.specs.Pairs.{◌or_else◌, ◌or_line◌}
use Rattle.lk_questions.specs.Strings.{expansion_of}
use Rattle.lk_store.specs.Contents.{text_at, tree_at}
use Rattle.lk_ask.specs.Settles.{Settles}
use Rattle.lk_lit.proofs.Halves.{begins_with}
use Rattle.lk_lit.proofs.TextForms.{line_behind, line_refused}
use Rattle.lk_lit.proofs.texts.expanded_first.Goals as goal

pub returns-in-Ok-None : goal.returns-in-Ok-None
returns-in-Ok-None g c =
    let d = g.L.Terms.contents c.args.looks.now in
    let a = tree_at d c.args.a in
    let b = tree_at d c.args.b in
    let s = c.in_ok-e.ensures.settles in
    let a_is = s.keeps.trees.same c.args.a c.requires.a_in in
    let b_is = s.keeps.trees.same c.args.b c.requires.b_in in
    let settled = subst (λ r. Settles g.L.Terms.contents g.L.Terms.rest g.L.Looks.sight c.args.looks.now
    c.expansion_of.new.looks (Ok r) (λ k o. option_map (tree_at k) o)
    (λ k. expansion_of (text_at k c.args.text)))
    (c.in-Ok-None.is ∙ ap Ok c.in-Ok-None.field-0-is) s in
    line_behind (λ p x. (same_first x b or_line text_second a b) or_else p a b) None
    (λ p. begins_with (expansion_of (text_at d c.args.text)) (λ x. same_first x b)
    (text_second a b) (p a b)) settled (rw (a_is, b_is) at c.second.ensures)

pub returns-in-Err : goal.returns-in-Err
returns-in-Err g c =
    let d = g.L.Terms.contents c.args.looks.now in
    let a = tree_at d c.args.a in
    let b = tree_at d c.args.b in
    line_refused (λ p x. (same_first x b or_line text_second a b) or_else p a b) c.in-Err.rule
    (λ p. begins_with (expansion_of (text_at d c.args.text)) (λ x. same_first x b)
    (text_second a b) (p a b)) (rw c.in-Err.is at c.in_ok-e.ensures.settles)
