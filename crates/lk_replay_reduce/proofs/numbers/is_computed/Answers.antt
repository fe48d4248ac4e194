use Rattle.lk_store.specs.Contents.{tree_at}
use Rattle.lk_premises.specs.Claims.{claims_at}
use Rattle.lk_replay_reduce.proofs.NumberForms.{unary_is, binary_is}
use Rattle.lk_replay_reduce.proofs.numbers.is_computed.Goals as goal

pub returns-in-Unary : goal.returns-in-Unary
returns-in-Unary g c =
    let d = g.L.Terms.contents c.args.looks.now in
    let w = (g.L.Looks.sight (g.L.Terms.rest c.args.looks.now)).basis.place in
    rw (c.in-Unary.is, unary_is w (claims_at d c.args.claims.now) (tree_at d c.args.b) c.in-Unary.op c.args.left.now (tree_at d c.args.a))
    c.is_unary.ensures

pub returns-in-Binary : goal.returns-in-Binary
returns-in-Binary g c =
    let d = g.L.Terms.contents c.args.looks.now in
    let w = (g.L.Looks.sight (g.L.Terms.rest c.args.looks.now)).basis.place in
    rw (c.in-Binary.is, binary_is w (claims_at d c.args.claims.now) (tree_at d c.args.b) c.in-Binary.op c.args.left.now (tree_at d c.args.a))
    c.is_binary.ensures
