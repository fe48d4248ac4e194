use Rattle.std.proofs.Common.{rules}
use Rattle.lk_store.specs.Contents.{tree_at}
use Rattle.lk_premises.specs.Claims.{claims_at}
use Rattle.lk_premises.proofs.AtHead.{head_some, head_none}
use Rattle.lk_replay_equal.specs.Units.{unit_by}
use Rattle.lk_replay_equal.proofs.units.with_form.Goals as goal

pub returns-in-Some : goal.returns-in-Some
returns-in-Some g c =
    let d = g.L.Terms.contents c.args.looks.now in
    let w = (g.L.Looks.sight (g.L.Terms.rest c.args.looks.now)).basis.place in
    let ps = claims_at d c.args.claims.now in
    let form = tree_at d c.args.form in
    let h = c.in-Some.ensures.headed in
    rw (head_some w form (λ n e. unit_by ps c.args.left.now (tree_at d c.args.ty) form e.kind (tree_at d c.args.b)) _ h.entry h.means)
    (c.with_entry.ensures h.entry h.is)

pub returns-in-None : goal.returns-in-None
returns-in-None g c =
    let d = g.L.Terms.contents c.args.looks.now in
    let w = (g.L.Looks.sight (g.L.Terms.rest c.args.looks.now)).basis.place in
    let ps = claims_at d c.args.claims.now in
    let form = tree_at d c.args.form in
    rw (head_none w form (λ n e. unit_by ps c.args.left.now (tree_at d c.args.ty) form e.kind (tree_at d c.args.b)) c.in-None.ensures.headless)
    (search rules)
