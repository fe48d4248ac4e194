use Rattle.std.proofs.Common.{rules, ◌≡◌}
use Rattle.lk_store.specs.Contents.{name_at, text_at}
use Rattle.lk_store.specs.Store.{contents_of}
use Rattle.lk_needs.proofs.Spelled.{other_word}
use Rattle.lk_needs.proofs.builtins.before_word.Goals as goal

pub returns-else-eq : goal.returns-else-eq
returns-else-eq c = λ p.
    let t = contents_of c.args.base.now in
    let apart : text_at t c.in-Text.component ≡ c.args.word.now → ⊥ = search rules in
    other_word _ (name_at t c.in-Text.parent) p _ _ c.in-Text.ensures.name apart
