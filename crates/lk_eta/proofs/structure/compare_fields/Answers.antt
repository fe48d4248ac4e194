use Rattle.std.proofs.Common.{◌∙◌}
use Rattle.lk_store.specs.Contents.{tree_at}
use Rattle.lk_ask.proofs.Sheets.{grown}
use Rattle.lk_ask.proofs.LineSteps.{made_now}
use Rattle.lk_eta.proofs.Pairing.{compared}
use Rattle.lk_eta.proofs.structure.compare_fields.Goals as goal

pub returns : goal.returns
returns g c s is =
    let before = g.L.Terms.contents c.args.looks.now in
    let after = g.L.Terms.contents c.pairs_of.new.terms in
    let sight = g.L.Looks.sight (g.L.Terms.rest c.args.looks.now) in
    let x = c.in_ok-pairs.ensures.keeps in
    let pairs = c.in_ok-pairs.ensures.ok in
    made_now c.args.looks.now c.pairs_of.new.terms _ _ x c.in_ok-pairs.ensures.rest
    (c.next_pair.ensures.known _ (grown x c.args.a c.requires.a_in) (grown x c.args.b c.requires.b_in) pairs.pairs_in)
    (λ p.
    c.next_pair.ensures.steps p sight.basis.place (tree_at after) sight.last
    ∙ compared before after x c.args.a c.args.b c.requires.a_in c.requires.b_in c.args.found s is c.in_ok-pairs.pairs pairs p sight.basis.place sight.last)
