use Rattle.lk_store.specs.Contents.{tree_at}
use Rattle.lk_ask.proofs.LineSteps.{line_now}
use Rattle.lk_eta.proofs.ways.of_way.Goals as goal

pub returns-in-Turned : goal.returns-in-Turned
returns-in-Turned g c =
    let s = c.args.looks.now in
    let sight = g.L.Looks.sight (g.L.Terms.rest s) in
    rw c.in-Turned.is (line_now s _ _ (c.of_turned.ensures.known _ c.requires)
    (λ p. c.of_turned.ensures.steps p sight.basis.place (tree_at (g.L.Terms.contents s)) sight.last))
