use Rattle.std.proofs.Common.{◌≡◌, take, ap, sym, subst, ◌∙◌}
use Rattle.lk_rulebook.specs.Place.{Place}
use Rattle.lk_store.specs.Contents.{Contents}
use Rattle.lk_derive_types.specs.Projections.{IsParameterAt}
use Rattle.lk_derive_types.proofs.SubjectSteps.{parameters_begin}
use Rattle.lk_derive_types.proofs.subjects.put_parameters.Goals as goal

pub past_parameters-requires-clause-parameters : goal.past_parameters-requires-clause-parameters
past_parameters-requires-clause-parameters g c =
    let w : Place = (g.D.Looks.sight (g.D.Terms.rest c.args.derives.now)).basis.place in
    let c₀ : Contents = g.D.Terms.contents c.args.derives.now in
    let n = c.args.begun.parameters in
    let first : c.first_of-parameters.result.now ≡ take n c.in_ok-arguments.arguments.items = c.first_of-parameters.ensures ∙ ap (take n) c.deref.ensures.value in
    subst (λ xs. IsParameterAt w c₀ c.args.e c.args.enough c.args.begun.prop c.args.begun.stated xs c.args.asked.now) (sym first)
    (parameters_begin w c₀ c.args.e c.args.enough c.args.begun c.args.asked.now c.in_ok-arguments.arguments.items c.requires.begun c.in_ok-arguments.ensures)
