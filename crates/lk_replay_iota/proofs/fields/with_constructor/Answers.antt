use Rattle.std.proofs.Common.{rules}
use Rattle.lk_store.specs.Contents.{name_at, tree_at}
use Rattle.lk_replay_iota.proofs.FieldForms.{field_found, field_lost}
use Rattle.lk_replay_iota.proofs.fields.with_constructor.Goals as goal

pub returns-in-Some : goal.returns-in-Some
returns-in-Some g c =
    let d = g.L.Terms.contents c.args.looks.now in
    let basis = (g.L.Looks.sight (g.L.Terms.rest c.args.looks.now)).basis in
    rw (field_found basis.place (name_at d c.args.structure) c.args.field (tree_at d c.args.b) d basis.library c.args.left.now (tree_at d c.args.e) c.in-Some.found c.in-Some.ensures.is)
    c.is_field.ensures

pub returns-in-None : goal.returns-in-None
returns-in-None g c =
    let d = g.L.Terms.contents c.args.looks.now in
    let basis = (g.L.Looks.sight (g.L.Terms.rest c.args.looks.now)).basis in
    rw (field_lost basis.place (name_at d c.args.structure) c.args.field (tree_at d c.args.b) d basis.library c.args.left.now (tree_at d c.args.e) c.in-None.ensures.is)
    (search rules)
