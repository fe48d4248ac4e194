use Rattle.std.proofs.Common.{rules}
use Rattle.lk_tree.specs.Spine.{head, args}
use Rattle.lk_store.specs.Contents.{tree_at}
use Rattle.lk_constructor.specs.Looking.{app_at}
use Rattle.lk_constructor.proofs.Applied.{some_applied, none_applied}
use Rattle.lk_replay_iota.proofs.rules.with_major.Goals as goal

pub returns-in-Some : goal.returns-in-Some
returns-in-Some g c y h =
    let d = g.L.Terms.contents c.args.looks.now in
    let basis = (g.L.Looks.sight (g.L.Terms.rest c.args.looks.now)).basis in
    let e = tree_at d c.args.e in
    let q = some_applied d basis.library (args e) c.in-Some.found (app_at basis.place (head e) (args e)) c.in-Some.ensures.is in
    rw q.1 (c.with_constructor.ensures y q.0 h q.2)

pub returns-in-None : goal.returns-in-None
returns-in-None g c y h =
    let d = g.L.Terms.contents c.args.looks.now in
    let basis = (g.L.Looks.sight (g.L.Terms.rest c.args.looks.now)).basis in
    let e = tree_at d c.args.e in
    let q = none_applied d basis.library (args e) (app_at basis.place (head e) (args e)) c.in-None.ensures.is in
    rw q (record { keeps = search rules; stays = search rules; ok = search rules })
