use Rattle.std.proofs.Common.{rules}
use Rattle.lk_store.specs.Contents.{tree_at}
use Rattle.lk_premises.specs.Claims.{claims_at}
use Rattle.lk_premises.proofs.AtHead.{head_some, head_none}
use Rattle.lk_replay_iota.specs.Expansions.{entry_read}
use Rattle.lk_replay_iota.proofs.expansions.with_function.Goals as goal

pub returns-in-Some : goal.returns-in-Some
returns-in-Some g c =
    let d = g.L.Terms.contents c.args.looks.now in
    let t = tree_at d in
    let w = (g.L.Looks.sight (g.L.Terms.rest c.args.looks.now)).basis.place in
    let h = c.in-Some.ensures.headed in
    rw (head_some w (t c.args.f) (λ n y. entry_read w (claims_at d c.args.claims.now) c.args.left.now y.kind (t c.args.f) (t c.args.m) (t c.args.n)) _ h.entry h.means)
    (c.with_entry.ensures h.entry h.is)

pub returns-in-None : goal.returns-in-None
returns-in-None g c =
    let d = g.L.Terms.contents c.args.looks.now in
    let t = tree_at d in
    let w = (g.L.Looks.sight (g.L.Terms.rest c.args.looks.now)).basis.place in
    rw (head_none w (t c.args.f) (λ n y. entry_read w (claims_at d c.args.claims.now) c.args.left.now y.kind (t c.args.f) (t c.args.m) (t c.args.n)) c.in-None.ensures.headless)
    (record { keeps = search rules; stays = search rules; ok = search rules })
