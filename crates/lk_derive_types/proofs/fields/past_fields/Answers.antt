use Rattle.std.proofs.Common.{◌+◌, refl, sym, subst, arith}
use Rattle.lk_rulebook.specs.Place.{Place}
use Rattle.lk_rulebook.specs.WellStated.{WellStated}
use Rattle.lk_store.proofs.Made.{Extends-self}
use Rattle.lk_derive_types.specs.Projections.{IsFieldAt}
use Rattle.lk_derive_types.proofs.Leaving.{leaves_made, leaves_then}
use Rattle.lk_derive_types.proofs.FieldsOn.{last_one}
use Rattle.lk_derive_types.proofs.fields.past_fields.Goals as goal

pub fields-init : goal.fields-init
fields-init g c = record {
  leaves = leaves_made g.D.Terms.contents g.D.Terms.rest g.D.Looks.sight c.args.derives.now c.args.derives.now (Extends-self (g.D.Terms.contents c.args.derives.now)) refl;
  field = c.requires.field;
}

pub past_field-requires-clause-stated : goal.past_field-requires-clause-stated
past_field-requires-clause-stated g c = subst WellStated (sym c.fields.invariant.leaves.place) c.requires.stated

pub past_field-requires-clause-field : goal.past_field-requires-clause-field
past_field-requires-clause-field g c =
    subst (λ v. IsFieldAt v (g.D.Terms.contents c.fields.derives) c.args.p c.args.enough c.fields.number c.fields.at c.fields.asked) (sym c.fields.invariant.leaves.place) c.fields.invariant.field

pub returns-in_err-at-clause-leaves : goal.returns-in_err-at-clause-leaves
returns-in_err-at-clause-leaves g c =
    leaves_then g.D.Terms.contents g.D.Terms.rest g.D.Looks.sight c.args.derives.now c.fields.derives c.past_field.new.derives c.fields.invariant.leaves c.past_field.ensures.leaves

pub fields-preserved : goal.fields-preserved
fields-preserved g c =
    let place = c.fields.invariant.leaves.place in
    record {
      leaves = leaves_then g.D.Terms.contents g.D.Terms.rest g.D.Looks.sight c.args.derives.now c.fields.derives c.past_field.new.derives c.fields.invariant.leaves c.past_field.ensures.leaves;
      field = subst (λ v. IsFieldAt v (g.D.Terms.contents c.past_field.new.derives) c.args.p c.args.enough (c.fields.number + 1) c.in_ok-at.at c.past_field.new.asked) place c.in_ok-at.ensures.field;
    }

pub returns-clause-leaves : goal.returns-clause-leaves
returns-clause-leaves g c = c.fields.invariant.leaves

pub returns-clause-field : goal.returns-clause-field
returns-clause-field g c =
    let w : Place = (g.D.Looks.sight (g.D.Terms.rest c.args.derives.now)).basis.place in
    let x = c.fields-test.false in
    last_one w (g.D.Terms.contents c.fields.derives) c.args.p c.args.enough c.fields.number c.fields.at c.fields.asked (omega (arith, x)) c.fields.invariant.field
