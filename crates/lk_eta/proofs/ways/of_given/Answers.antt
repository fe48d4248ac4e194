use Rattle.lk_store.specs.Contents.{tree_at}
use Rattle.lk_ask.proofs.LineSteps.{line_now}
use Rattle.lk_eta.proofs.ways.of_given.Goals as goal

pub returns-in-Goes : goal.returns-in-Goes
returns-in-Goes g c =
    let s = c.args.looks.now in
    let sight = g.L.Looks.sight (g.L.Terms.rest s) in
    rw c.in-Goes.is (line_now s _ _ (c.of_next.ensures.known _ (rw c.in-Goes.is at c.requires))
    (λ p. c.of_next.ensures.steps p sight.basis.place (tree_at (g.L.Terms.contents s)) sight.last))
