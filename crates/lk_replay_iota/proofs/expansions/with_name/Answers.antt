use Rattle.std.proofs.Common.{rules, []}
use Rattle.lk_store.specs.Contents.{name_at, tree_at}
use Rattle.lk_constructor.specs.Looking.{ctor_at}
use Rattle.lk_constructor.proofs.Applied.{some_applied, none_applied}
use Rattle.lk_replay_iota.proofs.expansions.with_name.Goals as goal

pub returns-in-Some : goal.returns-in-Some
returns-in-Some g c =
    let d = g.L.Terms.contents c.args.looks.now in
    let basis = (g.L.Looks.sight (g.L.Terms.rest c.args.looks.now)).basis in
    let q = some_applied d basis.library [] c.in-Some.found (ctor_at basis.place (name_at d c.args.name) [] []) (c.in-Some.ensures.is [] []) in
    rw q.1 (c.with_constructor.ensures q.0 q.2)

pub returns-in-None : goal.returns-in-None
returns-in-None g c =
    let d = g.L.Terms.contents c.args.looks.now in
    let basis = (g.L.Looks.sight (g.L.Terms.rest c.args.looks.now)).basis in
    let q = none_applied d basis.library [] (ctor_at basis.place (name_at d c.args.name) [] []) (c.in-None.ensures.is [] []) in
    rw q (record { keeps = search rules; stays = search rules; ok = search rules })
