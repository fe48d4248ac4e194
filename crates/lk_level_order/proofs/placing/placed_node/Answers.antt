use Rattle.std.proofs.Common.{ap, ◌∙◌}
use Rattle.lk_tree.specs.Tree.{succ_level, param}
use Rattle.lk_store.specs.declared.node.LevelNode.TheVariants.{Zero}
use Rattle.lk_level_order.specs.declared.parameters.Parameter.{Parameter}
use Rattle.lk_level_order.specs.declared.placing.PlacedLevel.{PlacedLevel}
use Rattle.lk_level_order.proofs.Placed.{place_level, place_name}
use Rattle.lk_level_order.proofs.placing.placed_node.Goals as goal

none : PlacedLevel
none = record { level = 0; node = Zero }

pub returns-in_ok-place_of-in-Succ-clause-level : goal.returns-in_ok-place_of-in-Succ-clause-level
returns-in_ok-place_of-in-Succ-clause-level g c =
    let t = g.T.Terms.contents c.args.terms.now in
    ap succ_level (place_level t c.args.names.now c.args.parts.now c.in-Succ.a c.in_ok-place_of-in-Succ.field-0 none c.in_ok-place_of-in-Succ.ensures) ∙ c.in-Succ.ensures.level

pub returns-in_ok-right-in-Max-clause-level : goal.returns-in_ok-right-in-Max-clause-level
returns-in_ok-right-in-Max-clause-level g c =
    let t = g.T.Terms.contents c.args.terms.now in
    let left = place_level t c.args.names.now c.args.parts.now c.in-Max.a c.in_ok-left-in-Max.left none c.in_ok-left-in-Max.ensures in
    let right = place_level t c.args.names.now c.args.parts.now c.in-Max.b c.in_ok-right-in-Max.right none c.in_ok-right-in-Max.ensures in
    let is = c.in-Max.ensures.level in
    rw (left, right) is

pub returns-in_ok-right-in-IMax-clause-level : goal.returns-in_ok-right-in-IMax-clause-level
returns-in_ok-right-in-IMax-clause-level g c =
    let t = g.T.Terms.contents c.args.terms.now in
    let left = place_level t c.args.names.now c.args.parts.now c.in-IMax.a c.in_ok-left-in-IMax.left none c.in_ok-left-in-IMax.ensures in
    let right = place_level t c.args.names.now c.args.parts.now c.in-IMax.b c.in_ok-right-in-IMax.right none c.in_ok-right-in-IMax.ensures in
    let is = c.in-IMax.ensures.level in
    rw (left, right) is

pub returns-in-Some-clause-level : goal.returns-in-Some-clause-level
returns-in-Some-clause-level g c =
    let t = g.T.Terms.contents c.args.terms.now in
    let row : Parameter = record { name = 0 } in
    ap param (place_name t c.args.names.now c.args.parts.now c.in-Param.n c.in-Some.i row c.in-Some.ensures.known c.in-Some.ensures.present) ∙ c.in-Param.ensures.level
