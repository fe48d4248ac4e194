use Rattle.lk_derive_types.proofs.Leaving.{leaves_then}
use Rattle.lk_derive_types.proofs.FieldSteps.{last_function, last_sorted, last_typed}
use Rattle.lk_derive_types.proofs.fields.last_field.Goals as goal

pub pi_of-requires-clause-e_in : goal.pi_of-requires-clause-e_in
pi_of-requires-clause-e_in g c = c.requires.field.at_is.known

pub pi_of-requires-clause-function : goal.pi_of-requires-clause-function
pi_of-requires-clause-function g c =
    last_function (g.D.Looks.sight (g.D.Terms.rest c.args.derives.now)).basis.place (g.D.Terms.contents c.args.derives.now) c.args.p c.args.enough c.args.at c.args.asked.now c.requires.field

pub note_prop-requires-clause-domain_in : goal.note_prop-requires-clause-domain_in
note_prop-requires-clause-domain_in g c = c.in_ok-function.ensures.function.domain_is.known

pub note_prop-requires-clause-sorted : goal.note_prop-requires-clause-sorted
note_prop-requires-clause-sorted g c = λ e.
    last_sorted (g.D.Looks.sight (g.D.Terms.rest c.args.derives.now)).basis.place (g.D.Looks.sight (g.D.Terms.rest c.pi_of.new.derives)).basis.place c.requires.stated (g.D.Terms.contents c.args.derives.now) (g.D.Terms.contents c.pi_of.new.derives)
    c.args.p c.args.enough c.args.at c.args.asked.now c.in_ok-function.function c.pi_of.ensures.leaves.place c.requires.field c.in_ok-function.ensures.function e

pub returns : goal.returns
returns g c =
    let w = (g.D.Looks.sight (g.D.Terms.rest c.args.derives.now)).basis.place in
    let u = (g.D.Looks.sight (g.D.Terms.rest c.pi_of.new.derives)).basis.place in
    record {
      leaves = leaves_then g.D.Terms.contents g.D.Terms.rest g.D.Looks.sight c.args.derives.now c.pi_of.new.derives c.note_prop.new.derives c.pi_of.ensures.leaves c.note_prop.ensures.leaves;
      typed = last_typed w u c.requires.stated (g.D.Terms.contents c.args.derives.now) (g.D.Terms.contents c.pi_of.new.derives) (g.D.Terms.contents c.note_prop.new.derives) c.args.p c.args.enough c.args.at c.args.asked.now c.note_form.new.self c.note_prop.new.asked
          c.in_ok-function.function c.pi_of.ensures.leaves.place c.pi_of.ensures.leaves.keeps c.note_prop.ensures.leaves.keeps c.requires.field c.in_ok-function.ensures.function c.in_ok-note_form.ensures c.in_ok-note_prop.ensures.noted;
    }
