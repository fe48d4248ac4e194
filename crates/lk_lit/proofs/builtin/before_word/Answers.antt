use Rattle.std.proofs.Common.{rules, ◌≡◌}
use Rattle.lk_store.specs.Contents.{name_at, text_at}
use Rattle.lk_lit.proofs.Naming.{other_word}
use Rattle.lk_lit.proofs.builtin.before_word.Goals as goal

pub returns-else-eq : goal.returns-else-eq
returns-else-eq g c p =
    let t = g.T.Terms.contents c.args.terms.now in
    let apart : text_at t c.in-Text.component ≡ c.args.word.now → ⊥ = search rules in
    other_word _ (name_at t c.in-Text.parent) p _ _ c.in-Text.ensures.name apart
