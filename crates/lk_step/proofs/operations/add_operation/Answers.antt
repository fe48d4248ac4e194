use Rattle.std.proofs.Common.{◌≡◌, ◌<◌, Some, length, refl, sym, subst, ap, ◌∙◌}
use Rattle.std.specs.Prelude.{option_map, IfSome}
use Rattle.lk_rulebook.specs.Place.{Place}
use Rattle.lk_store.specs.Contents.{Contents, tree_at}
use Rattle.lk_step.proofs.Stating.{comes_to, comes_at, adds_value, states_at}
use Rattle.lk_step.proofs.operations.add_operation.Goals as goal

pub state_value-requires-clause-comes : goal.state_value-requires-clause-comes
state_value-requires-clause-comes g c =
    let t = tree_at (g.D.Terms.contents c.args.derives.now) in
    let m : Contents = g.D.Terms.contents c.computed.new.derives in
    let w : Place = (g.D.Looks.sight (g.D.Terms.rest c.args.derives.now)).basis.place in
    let w1 : Place = (g.D.Looks.sight (g.D.Terms.rest c.computed.new.derives)).basis.place in
    let x = c.computed.ensures.leaves in
    let v = tree_at m c.in-Some.value in
    let is : c.requires.run.value ≡ Some v = c.in_ok-value.ensures.comes c.requires.run.value c.requires.run.cost c.requires.run.runs ∙ ap (option_map (tree_at m)) c.in-Some.is in
    comes_at w w1 (t c.args.e) (tree_at m c.args.e) v v c.args.enough x.place (x.keeps.trees.same c.args.e c.requires.e_in) refl (comes_to w (t c.args.e) v c.args.enough c.requires.run is)

pub returns-in_ok-state_value-in-Some-clause-told : goal.returns-in_ok-state_value-in-Some-clause-told
returns-in_ok-state_value-in-Some-clause-told g c =
    let old : Contents = g.D.Terms.contents c.args.derives.now in
    let m : Contents = g.D.Terms.contents c.computed.new.derives in
    let d : Contents = g.D.Terms.contents c.state_value.new.derives in
    let w : Place = (g.D.Looks.sight (g.D.Terms.rest c.args.derives.now)).basis.place in
    let w1 : Place = (g.D.Looks.sight (g.D.Terms.rest c.computed.new.derives)).basis.place in
    let x = c.computed.ensures.leaves in
    let e = tree_at old c.args.e in
    let v = tree_at d c.in-Some.value in
    let known : c.in-Some.value < length m.trees = subst (λ o. IfSome o (λ u. u < length m.trees)) c.in-Some.is c.in_ok-value.ensures.known in
    let v1 : tree_at m c.in-Some.value ≡ v = sym (c.state_value.ensures.leaves.keeps.trees.same c.in-Some.value known) in
    adds_value w old m d x.keeps c.args.row.now c.state_value.new.row e v
    (λ r n h. c.in_ok-value.ensures.comes r n h ∙ ap (option_map (tree_at m)) c.in-Some.is ∙ ap Some v1)
    (states_at w w1 m d c.args.row.now c.state_value.new.row e (tree_at m c.args.e) v (tree_at m c.in-Some.value) x.place (x.keeps.trees.same c.args.e c.requires.e_in) v1 c.in_ok-state_value-in-Some.ensures.asks)
