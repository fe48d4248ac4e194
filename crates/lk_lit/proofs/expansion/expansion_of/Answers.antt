use Rattle.std.proofs.Common.{ap, sym, refl}
use Rattle.lk_questions.specs.Strings.{expansion_by}
use Rattle.lk_store.specs.Contents.{text_at}
use Rattle.lk_lit.proofs.Settling.{given_on}
use Rattle.lk_lit.proofs.expansion.expansion_of.Goals as goal

pub returns-in-Ok-clause-settles : goal.returns-in-Ok-clause-settles
returns-in-Ok-clause-settles g c =
    let s = text_at (g.L.Terms.contents c.args.looks.now) c.args.text in
    let same = c.in_ok-string.ensures.keeps.texts.same c.args.text c.requires in
    given_on (λ e d. expansion_by (text_at d c.args.text) e e.kind) (λ e. expansion_by s e e.kind)
    (rw c.in-Ok.is at c.in_ok-string.ensures) refl (λ e. ap (λ t. expansion_by t e e.kind) (sym same))
    c.expansion_by.ensures.settles
