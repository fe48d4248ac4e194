use Rattle.std.proofs.Common.{sym}
use Rattle.lk_questions.proofs.Binding.{bind_bind}
use Rattle.lk_questions.specs.LiteralLines.{same_second}
use Rattle.lk_questions.specs.Pairs.{◌or_else◌}
use Rattle.lk_questions.specs.Strings.{expansion_of}
use Rattle.lk_store.specs.Contents.{text_at, tree_at}
use Rattle.lk_lit.proofs.TextForms.{line_refused}
use Rattle.lk_lit.proofs.texts.expanded_second.Goals as goal

pub returns-in-Err : goal.returns-in-Err
returns-in-Err g c =
    let d = g.L.Terms.contents c.args.looks.now in
    let a = tree_at d c.args.a in
    let b = tree_at d c.args.b in
    line_refused (λ p x. same_second a x or_else p a b) c.in-Err.rule
    (λ p. sym (bind_bind (expansion_of (text_at d c.args.text)) (λ x. same_second a x) _))
    (rw c.in-Err.is at c.in_ok-e.ensures.settles)
