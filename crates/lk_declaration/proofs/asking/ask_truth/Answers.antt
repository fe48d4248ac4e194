use Rattle.std.proofs.Common.{ap, ◌∙◌}
use Rattle.lk_questions.specs.Erased.{finished}
use Rattle.lk_store.specs.Contents.{tree_at}
use Rattle.lk_ask.specs.Questions.{query_of, value_at}
use Rattle.lk_declaration.proofs.OneKind.{no_term}
use Rattle.lk_declaration.proofs.asking.ask_truth.Goals as goal

pub unreachable-requires : goal.unreachable-requires
unreachable-requires g c =
    let s = g.A.Asks.standing c.args.asks.now in
    let left = g.A.Asks.left c.ask.new.self in
    let after = tree_at (g.A.Terms.contents c.ask.new.self) in
    let h = c.in_ok-holds.ensures.outcome in
    no_term s.table s.place (query_of (tree_at (g.A.Terms.contents c.args.asks.now)) c.args.query) c.requires.kind (g.A.Asks.left c.args.asks.now) left h.0 (after c.in-Term.field-0)
    (h.1 ∙ ap (λ v. finished (value_at after v) left h.0) c.in-Term.is)
