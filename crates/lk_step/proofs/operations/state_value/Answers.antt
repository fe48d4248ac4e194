use Rattle.lk_rulebook.specs.Place.{Place}
use Rattle.lk_store.specs.Contents.{tree_at}
use Rattle.lk_step.proofs.Stating.{has_operands}
use Rattle.lk_step.proofs.operations.state_value.Goals as goal

pub operands_of-requires-clause-few : goal.operands_of-requires-clause-few
operands_of-requires-clause-few g c =
    let t = tree_at (g.D.Terms.contents c.args.derives.now) in
    let w : Place = (g.D.Looks.sight (g.D.Terms.rest c.args.derives.now)).basis.place in
    has_operands w (t c.args.e) (t c.args.value) c.args.enough c.requires.comes
