use Rattle.std.proofs.Common.{rules, ap, ◌∙◌}
use Rattle.lk_tree.specs.Spine.{head, args}
use Rattle.lk_questions.specs.Tests.{◌>>=◌}
use Rattle.lk_store.specs.Contents.{tree_at}
use Rattle.lk_constructor.specs.Looking.{app_at}
use Rattle.lk_constructor.proofs.Applied.{some_applied, none_applied}
use Rattle.lk_premises.specs.Claims.{claims_at}
use Rattle.lk_replay_equal.specs.Structures.{constructor_and}
use Rattle.lk_replay_equal.proofs.Structured.{struct_read}
use Rattle.lk_replay_equal.proofs.structures.test_structure.Goals as goal

pub returns-in-Some : goal.returns-in-Some
returns-in-Some g c =
    let d = g.L.Terms.contents c.args.looks.now in
    let basis = (g.L.Looks.sight (g.L.Terms.rest c.args.looks.now)).basis in
    let ps = claims_at d c.args.claims.now in
    let a = tree_at d c.args.a in
    let b = tree_at d c.args.b in
    let q = some_applied d basis.library (args b) c.in-Some.found (app_at basis.place (head b) (args b)) c.in-Some.ensures.is in
    rw (struct_read ps a b c.args.left.now basis.place ∙ ap (λ o. o >>= λ k. constructor_and ps c.args.left.now a b k) q.1)
    (c.with_constructor.ensures q.0 q.2)

pub returns-in-None : goal.returns-in-None
returns-in-None g c =
    let d = g.L.Terms.contents c.args.looks.now in
    let basis = (g.L.Looks.sight (g.L.Terms.rest c.args.looks.now)).basis in
    let ps = claims_at d c.args.claims.now in
    let a = tree_at d c.args.a in
    let b = tree_at d c.args.b in
    let q = none_applied d basis.library (args b) (app_at basis.place (head b) (args b)) c.in-None.ensures.is in
    rw (struct_read ps a b c.args.left.now basis.place ∙ ap (λ o. o >>= λ k. constructor_and ps c.args.left.now a b k) q)
    (record { keeps = search rules; stays = search rules; ok = search rules })
