use Rattle.std.proofs.Common.{◌∙◌}
use Rattle.lk_store.specs.Contents.{tree_at}
use Rattle.lk_derive_types.proofs.PartSteps.{pi_is, pi_node}
use Rattle.lk_derive_types.proofs.parts.pi_of.Goals as goal

pub unreachable-requires : goal.unreachable-requires
unreachable-requires g c =
    let w = (g.D.Looks.sight (g.D.Terms.rest c.args.derives.now)).basis.place in
    let new = g.D.Terms.contents c.form_of.new.derives in
    let x = pi_is w (tree_at (g.D.Terms.contents c.args.derives.now) c.args.e) (tree_at new c.in_ok-pi.pi) c.args.enough c.requires.function c.in_ok-pi.ensures.told in
    let n = pi_node new c.view.result x.0 x.1 (c.view.ensures.tree ∙ x.2) in
    c.in_default.not-Pi n.0 n.1 n.2
