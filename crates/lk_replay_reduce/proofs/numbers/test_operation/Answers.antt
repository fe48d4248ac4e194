use Rattle.std.proofs.Common.{rules, ◌∙◌}
use Rattle.lk_store.specs.Contents.{tree_at}
use Rattle.lk_premises.specs.Claims.{claims_at}
use Rattle.lk_premises.proofs.AtHead.{head_some, head_none}
use Rattle.lk_replay_reduce.specs.Numbers.{entry_read}
use Rattle.lk_replay_reduce.proofs.NumberForms.{operation_is}
use Rattle.lk_replay_reduce.proofs.numbers.test_operation.Goals as goal

pub returns-in-Some : goal.returns-in-Some
returns-in-Some g c =
    let d = g.L.Terms.contents c.args.looks.now in
    let w = (g.L.Looks.sight (g.L.Terms.rest c.args.looks.now)).basis.place in
    let ps = claims_at d c.args.claims.now in
    let a = tree_at d c.args.a in
    let b = tree_at d c.args.b in
    let h = c.in-Some.ensures.headed in
    rw (operation_is w ps c.args.left.now a b ∙ head_some w a (λ n e. entry_read w ps c.args.left.now n.0 n.1 e.kind a b) _ h.entry h.means)
    (c.with_entry.ensures h.entry h.is)

pub returns-in-None : goal.returns-in-None
returns-in-None g c =
    let d = g.L.Terms.contents c.args.looks.now in
    let w = (g.L.Looks.sight (g.L.Terms.rest c.args.looks.now)).basis.place in
    let ps = claims_at d c.args.claims.now in
    let a = tree_at d c.args.a in
    let b = tree_at d c.args.b in
    rw (operation_is w ps c.args.left.now a b ∙ head_none w a (λ n e. entry_read w ps c.args.left.now n.0 n.1 e.kind a b) c.in-None.ensures.headless)
    (record { keeps = search rules; stays = search rules; ok = search rules })
