use Rattle.std.proofs.Common.{rules}
use Rattle.lk_store.specs.Contents.{tree_at}
use Rattle.lk_premises.proofs.AtHead.{head_some, head_none}
use Rattle.lk_replay_reduce.specs.Unfolding.{unfolds}
use Rattle.lk_replay_reduce.proofs.unfolding.test_delta.Goals as goal

pub returns-in-Some : goal.returns-in-Some
returns-in-Some g c =
    let t = tree_at (g.L.Terms.contents c.args.looks.now) in
    let w = (g.L.Looks.sight (g.L.Terms.rest c.args.looks.now)).basis.place in
    let h = c.in-Some.ensures.headed in
    rw (head_some w (t c.args.a) (λ n e. unfolds c.args.left.now e n.1 (t c.args.a) (t c.args.b)) _ h.entry h.means)
    (c.is_unfolded.ensures h.entry h.is)

pub returns-in-None : goal.returns-in-None
returns-in-None g c =
    let t = tree_at (g.L.Terms.contents c.args.looks.now) in
    let w = (g.L.Looks.sight (g.L.Terms.rest c.args.looks.now)).basis.place in
    rw (head_none w (t c.args.a) (λ n e. unfolds c.args.left.now e n.1 (t c.args.a) (t c.args.b)) c.in-None.ensures.headless)
    (record { keeps = search rules; stays = search rules; ok = search rules })
