use Rattle.lk_store.specs.Contents.{tree_at}
use Rattle.lk_eta.specs.Etas.{behind_way}
use Rattle.lk_ask.proofs.LineSteps.{same_line}
use Rattle.lk_eta.proofs.ways.resume_term.Goals as goal

pub of_way-requires : goal.of_way-requires
of_way-requires g c = c.resume_term-line.ensures.known _ c.requires.sheet_in c.requires.e_in

pub returns : goal.returns
returns g c =
    let s = c.args.looks.now in
    let sight = g.L.Looks.sight (g.L.Terms.rest s) in
    same_line (λ p. c.resume_term-line.ensures.steps (behind_way c.args.way p) sight.basis.place (tree_at (g.L.Terms.contents s)) sight.last) c.of_way.ensures
