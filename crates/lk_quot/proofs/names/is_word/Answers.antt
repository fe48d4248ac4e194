use Rattle.std.proofs.Common.{[], sym, ◌∙◌}
use Rattle.std.proofs.lemmas.Bool.{false≢true}
use Rattle.lk_store.specs.Contents.{name_at, text_at}
use Rattle.lk_quot.proofs.Naming.{ends_alike, ends_otherwise}
use Rattle.lk_quot.proofs.names.is_word.Goals as goal

pub returns-then-same_bytes : goal.returns-then-same_bytes
returns-then-same_bytes g c =
    let k = g.T.Terms.contents c.args.terms.now in
    let same = c.same_bytes.ensures.0 c.if-same_bytes.true in
    ends_alike (name_at k c.args.name) (name_at k c.in-Text.parent) ([])
    (text_at k c.in-Text.last) c.args.word.now c.in-Text.ensures.name
    (sym c.text.ensures ∙ sym c.as_bytes.ensures ∙ same) c.is_anonymous.result
    c.is_anonymous.ensures

pub returns-else-same_bytes : goal.returns-else-same_bytes
returns-else-same_bytes g c =
    let k = g.T.Terms.contents c.args.terms.now in
    ends_otherwise (name_at k c.args.name) (name_at k c.in-Text.parent) ([])
    (text_at k c.in-Text.last) c.args.word.now c.in-Text.ensures.name c.same_bytes.result
    (λ on. false≢true (sym c.if-same_bytes.false ∙ on))
    (λ e. false≢true (sym c.if-same_bytes.false
    ∙ c.same_bytes.ensures.1 (c.as_bytes.ensures ∙ c.text.ensures ∙ e)))
