use Rattle.lk_store.specs.Contents.{tree_at}
use Rattle.lk_ask.proofs.Sheets.{grown}
use Rattle.lk_eta.proofs.Long.{second_asks}
use Rattle.lk_ask.proofs.LineSteps.{made_now}
use Rattle.lk_eta.proofs.function.by_second.Goals as goal

pub returns-in_ok-e-in-Pi : goal.returns-in_ok-e-in-Pi
returns-in_ok-e-in-Pi g c =
    let d = g.L.Terms.contents c.args.looks.now in
    let sight = g.L.Looks.sight (g.L.Terms.rest c.args.looks.now) in
    let x = c.in_ok-e-in-Pi.ensures.keeps in
    let made = c.in_ok-e-in-Pi.ensures.ok in
    made_now c.args.looks.now c.long.new.terms _ _ x c.in_ok-e-in-Pi.ensures.stays
    ((grown x c.args.a c.requires.a_in, made.known), (grown x c.args.a c.requires.a_in, grown x c.args.b c.requires.b_in))
    (λ p. second_asks p sight.basis.place sight.last x c.args.a c.args.b c.in-Pi.domain c.in_ok-e-in-Pi.e c.requires.a_in c.requires.b_in (tree_at d c.in-Pi.field-1) (tree_at d c.args.form) c.in-Pi.ensures.tree made)
