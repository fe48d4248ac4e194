use Rattle.std.proofs.Common.{◌∙◌}
use Rattle.lk_store.specs.Contents.{tree_at}
use Rattle.lk_replay_iota.proofs.MajorForms.{recursor_given, recursor_lost}
use Rattle.lk_replay_iota.proofs.majors.is_recursor.Goals as goal

pub returns-in-Some : goal.returns-in-Some
returns-in-Some g c =
    let t = tree_at (g.L.Terms.contents c.args.looks.now) in
    let w = (g.L.Looks.sight (g.L.Terms.rest c.args.looks.now)).basis.place in
    let h = c.in-Some.ensures.headed in
    c.is_before.ensures h.entry h.is ∙ recursor_given w (t c.args.f) _ h.entry h.means

pub returns-in-None : goal.returns-in-None
returns-in-None g c =
    let t = tree_at (g.L.Terms.contents c.args.looks.now) in
    let w = (g.L.Looks.sight (g.L.Terms.rest c.args.looks.now)).basis.place in
    recursor_lost w (t c.args.f) c.in-None.ensures.headless
