use Rattle.std.proofs.Common.{ap, ◌∙◌}
use Rattle.std.specs.Prelude.{[], ◌∷◌}
use Rattle.lk_rulebook.specs.Place.{Place}
use Rattle.lk_rulebook.specs.Claims.{reduces}
use Rattle.lk_store.specs.Contents.{Contents, tree_at}
use Rattle.lk_step.proofs.Stating.{first_within, unary_states}
use Rattle.lk_step.proofs.operations.state_unary.Goals as goal

pub ask_form-requires-clause-answered : goal.ask_form-requires-clause-answered
ask_form-requires-clause-answered g c =
    let t = tree_at (g.D.Terms.contents c.args.derives.now) in
    let w : Place = (g.D.Looks.sight (g.D.Terms.rest c.args.derives.now)).basis.place in
    first_within w (t c.args.e) (t c.args.value) c.args.enough c.requires.comes (t c.args.argument) [] c.requires.arguments

pub returns-clause-asks : goal.returns-clause-asks
returns-clause-asks g c =
    let old : Contents = g.D.Terms.contents c.args.derives.now in
    let t = tree_at old in
    let d : Contents = g.D.Terms.contents c.ask_form.new.derives in
    let w : Place = (g.D.Looks.sight (g.D.Terms.rest c.args.derives.now)).basis.place in
    let same = c.ask_form.ensures.leaves.keeps.trees.same in
    let u = tree_at d c.in_ok-form.form in
    unary_states w old d c.args.row.now c.ask_form.new.row c.add_step.new.row (t c.args.e) (t c.args.value) (t c.args.argument) u c.requires.fine c.requires.arguments c.in_ok-form.ensures.asks
    (λ holds. c.in_ok-add_step.ensures w (t c.args.e) (t c.args.value) (reduces (t c.args.argument) u ∷ []) (same c.args.e c.requires.e_in) (same c.args.value c.requires.value_in)
    (c.in_ok-premises.ensures.are d ∙ ap (λ z. reduces z u ∷ []) (same c.args.argument c.requires.argument_in)) holds)
