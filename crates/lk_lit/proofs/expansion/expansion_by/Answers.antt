use Rattle.std.proofs.Common.{ap, sym, ◌∙◌}
use Rattle.lk_store.specs.Contents.{text_at}
use Rattle.lk_env.specs.Lent.{type_in}
use Rattle.lk_lit.specs.Expansions.{expanded_text}
use Rattle.lk_lit.specs.Shapes.{has_mk}
use Rattle.lk_lit.proofs.Settling.{settles_on, settles_not}
use Rattle.lk_lit.proofs.ExpansionForms.{expansion_form}
use Rattle.lk_lit.proofs.expansion.expansion_by.Goals as goal

pub returns-in-Ok-clause-settles : goal.returns-in-Ok-clause-settles
returns-in-Ok-clause-settles g c e is =
    let s = text_at (g.L.Terms.contents c.args.looks.now) c.args.text in
    let same = c.has_string_shape.ensures.keeps.texts.same c.args.text c.requires.text_in in
    let made = c.has_mk_alone-made.ensures e is in
    settles_on (λ d. expanded_text (text_at d c.args.text) c.in-Ok.shaped c.has_mk_alone-made.result)
    (λ shaped. expanded_text s shaped (has_mk (type_in e.kind)))
    (rw c.in-Ok.is at (c.in_ok-shaped.ensures.settles e is)) (expansion_form s e e.kind)
    (ap (expanded_text s c.in-Ok.shaped) (sym made)
    ∙ ap (λ t. expanded_text t c.in-Ok.shaped c.has_mk_alone-made.result) (sym same))
    c.expand_text.ensures.settles

pub returns-in-Err-clause-settles : goal.returns-in-Err-clause-settles
returns-in-Err-clause-settles g c e is =
    let s = text_at (g.L.Terms.contents c.args.looks.now) c.args.text in
    settles_not (λ shaped. expanded_text s shaped (has_mk (type_in e.kind)))
    (rw c.in-Err.is at (c.in_ok-shaped.ensures.settles e is)) (expansion_form s e e.kind)
