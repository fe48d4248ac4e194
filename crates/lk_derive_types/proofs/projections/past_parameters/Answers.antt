use Rattle.std.proofs.Common.{ℕ, ◌≡◌, List, length, refl, sym, subst, [], ◌∷◌, arith}
use Rattle.lk_rulebook.specs.WellStated.{WellStated}
use Rattle.lk_store.specs.Contents.{tree_at}
use Rattle.lk_store.proofs.Made.{Extends-self}
use Rattle.lk_derive_types.specs.Parts.{IsPiWithin}
use Rattle.lk_derive_types.specs.Projections.{IsParameterAt}
use Rattle.lk_derive_types.proofs.Leaving.{leaves_made, leaves_then}
use Rattle.lk_derive_types.proofs.ParameterSteps.{next_parameter_within, next_parameter_known}
use Rattle.lk_derive_types.proofs.projections.past_parameters.Goals as goal

pub parameters-init : goal.parameters-init
parameters-init g c = record {
  leaves = leaves_made g.D.Terms.contents g.D.Terms.rest g.D.Looks.sight c.args.derives.now c.args.derives.now (Extends-self (g.D.Terms.contents c.args.derives.now)) refl;
  parameters = c.requires.parameters;
}

pub past_parameter-requires-clause-stated : goal.past_parameter-requires-clause-stated
past_parameter-requires-clause-stated g c = subst WellStated (sym c.parameters.invariant.leaves.place) c.requires.stated

pub past_parameter-requires-clause-at_in : goal.past_parameter-requires-clause-at_in
past_parameter-requires-clause-at_in g c = c.parameters.invariant.parameters.at_is.known

pub past_parameter-requires-clause-argument_in : goal.past_parameter-requires-clause-argument_in
past_parameter-requires-clause-argument_in g c =
    let w = (g.D.Looks.sight (g.D.Terms.rest c.args.derives.now)).basis.place in
    let d = g.D.Terms.contents c.parameters.derives in
    let h = subst (λ es. IsParameterAt w d c.args.e c.args.enough c.args.prop c.parameters.at es c.parameters.asked) c.in-Some.ensures.cases.0 c.parameters.invariant.parameters in
    next_parameter_known w d c.args.e c.args.enough c.args.prop c.parameters.at c.in-Some.parameter.now c.in-Some.more.now c.parameters.asked h

pub past_parameter-requires-clause-function : goal.past_parameter-requires-clause-function
past_parameter-requires-clause-function g c =
    let w = (g.D.Looks.sight (g.D.Terms.rest c.args.derives.now)).basis.place in
    let d = g.D.Terms.contents c.parameters.derives in
    let h = subst (λ es. IsParameterAt w d c.args.e c.args.enough c.args.prop c.parameters.at es c.parameters.asked) c.in-Some.ensures.cases.0 c.parameters.invariant.parameters in
    subst (λ p. IsPiWithin p (tree_at d c.parameters.at) c.args.enough) (sym c.parameters.invariant.leaves.place)
    (next_parameter_within w d c.args.e c.args.enough c.args.prop c.parameters.at c.in-Some.parameter.now c.in-Some.more.now c.parameters.asked h)

pub returns-in_err-at-clause-leaves : goal.returns-in_err-at-clause-leaves
returns-in_err-at-clause-leaves g c =
    leaves_then g.D.Terms.contents g.D.Terms.rest g.D.Looks.sight c.args.derives.now c.parameters.derives c.past_parameter.new.derives c.parameters.invariant.leaves c.past_parameter.ensures.leaves

pub parameters-preserved : goal.parameters-preserved
parameters-preserved g c =
    let w = (g.D.Looks.sight (g.D.Terms.rest c.args.derives.now)).basis.place in
    let d = g.D.Terms.contents c.parameters.derives in
    let next = g.D.Terms.contents c.past_parameter.new.derives in
    let place = c.parameters.invariant.leaves.place in
    let h = subst (λ es. IsParameterAt w d c.args.e c.args.enough c.args.prop c.parameters.at es c.parameters.asked) c.in-Some.ensures.cases.0 c.parameters.invariant.parameters in
    let i = subst (λ p. IsParameterAt p d c.args.e c.args.enough c.args.prop c.parameters.at (c.in-Some.parameter.now ∷ c.in-Some.more.now) c.parameters.asked) (sym place) h in
    record {
      leaves = leaves_then g.D.Terms.contents g.D.Terms.rest g.D.Looks.sight c.args.derives.now c.parameters.derives c.past_parameter.new.derives c.parameters.invariant.leaves c.past_parameter.ensures.leaves;
      parameters = subst (λ p. IsParameterAt p next c.args.e c.args.enough c.args.prop c.in_ok-at.at c.in-Some.more.now c.past_parameter.new.asked) place (c.in_ok-at.ensures.parameters c.args.e c.args.prop c.in-Some.more.now i);
    }

pub returns-clause-leaves : goal.returns-clause-leaves
returns-clause-leaves g c = c.parameters.invariant.leaves

none_left : (es : List ℕ) → length es ≡ 0 → es ≡ []
none_left [] e = refl
none_left (x ∷ es) e = absurd (omega (arith, e))

pub returns-clause-parameters : goal.returns-clause-parameters
returns-clause-parameters g c =
    let w = (g.D.Looks.sight (g.D.Terms.rest c.args.derives.now)).basis.place in
    subst (λ es. IsParameterAt w (g.D.Terms.contents c.parameters.derives) c.args.e c.args.enough c.args.prop c.parameters.at es c.parameters.asked) (none_left c.parameters.rest.now c.in_default.ensures.cases) c.parameters.invariant.parameters
