use Rattle.lk_derive_types.proofs.Leaving.{leaves_made, leaves_then}
use Rattle.lk_derive_types.proofs.ParameterSteps.{parameter_more}
use Rattle.lk_derive_types.proofs.projections.past_parameter.Goals as goal

pub returns : goal.returns
returns g c =
    let w = (g.D.Looks.sight (g.D.Terms.rest c.args.derives.now)).basis.place in
    let c₀ = g.D.Terms.contents c.args.derives.now in
    let c₁ = g.D.Terms.contents c.pi_of.new.derives in
    let c₃ = g.D.Terms.contents c.open_with.new.terms in
    record {
      leaves = leaves_then g.D.Terms.contents g.D.Terms.rest g.D.Looks.sight c.args.derives.now c.pi_of.new.derives c.open_with.new.terms c.pi_of.ensures.leaves
          (leaves_made g.D.Terms.contents g.D.Terms.rest g.D.Looks.sight c.pi_of.new.derives c.open_with.new.terms c.open_with.ensures.keeps c.open_with.ensures.rest);
      parameters = λ e q rest h. parameter_more w c.requires.stated c₀ c₁ c₃ e c.args.enough q c.args.at c.args.argument rest c.args.asked.now c.note_form.new.self c.in_ok-function.function c.in_ok-next.next
          c.pi_of.ensures.leaves.keeps c.open_with.ensures.keeps c.in_ok-function.ensures.function c.in_ok-next.ensures.ok c.in_ok-note_form.ensures h;
    }
