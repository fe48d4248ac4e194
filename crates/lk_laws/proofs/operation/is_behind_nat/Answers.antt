use Rattle.std.proofs.Common.{sym, ◌∙◌}
use Rattle.std.proofs.lemmas.Bool.{false≢true}
use Rattle.lk_rulebook.specs.Names.{nat}
use Rattle.lk_store.specs.Contents.{name_at, text_at}
use Rattle.lk_quot.proofs.Naming.{ends_alike, ends_otherwise, ends_in_number}
use Rattle.lk_laws.proofs.operation.is_behind_nat.Goals as goal

pub returns-then-same_bytes : goal.returns-then-same_bytes
returns-then-same_bytes g c =
    let k = g.T.Terms.contents c.args.terms.now in
    let same = c.same_bytes.ensures.0 c.if-same_bytes.true in
    ends_alike (name_at k c.args.name) (name_at k c.in-Text.parent) nat
    (text_at k c.in-Text.last) c.args.word.now c.in-Text.ensures.name
    (sym c.text.ensures ∙ sym c.as_bytes.ensures ∙ same) c.is_nat.result c.is_nat.ensures

pub returns-else-same_bytes : goal.returns-else-same_bytes
returns-else-same_bytes g c =
    let k = g.T.Terms.contents c.args.terms.now in
    ends_otherwise (name_at k c.args.name) (name_at k c.in-Text.parent) nat
    (text_at k c.in-Text.last) c.args.word.now c.in-Text.ensures.name c.same_bytes.result
    (λ on. false≢true (sym c.if-same_bytes.false ∙ on))
    (λ e. false≢true (sym c.if-same_bytes.false
    ∙ c.same_bytes.ensures.1 (c.as_bytes.ensures ∙ c.text.ensures ∙ e)))

pub returns-in-Number : goal.returns-in-Number
returns-in-Number g c =
    let k = g.T.Terms.contents c.args.terms.now in
    ends_in_number (name_at k c.args.name) (name_at k c.in-Number.field-0) nat
    c.in-Number.field-1 c.args.word.now c.in-Number.ensures.name
