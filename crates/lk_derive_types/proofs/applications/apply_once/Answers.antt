use Rattle.lk_store.specs.Contents.{tree_at}
use Rattle.lk_derive_types.proofs.Leaving.{leaves_made, leaves_then}
use Rattle.lk_derive_types.proofs.BinderSteps.{answered_at}
use Rattle.lk_derive_types.proofs.SpineSteps.{spine_more}
use Rattle.lk_derive_types.proofs.applications.apply_once.Goals as goal

pub type_of-requires-clause-answered : goal.type_of-requires-clause-answered
type_of-requires-clause-answered g c =
    let w = (g.D.Looks.sight (g.D.Terms.rest c.args.derives.now)).basis.place in
    let u = (g.D.Looks.sight (g.D.Terms.rest c.pi_of.new.derives)).basis.place in
    answered_at w u (tree_at (g.D.Terms.contents c.pi_of.new.derives) c.args.argument) (tree_at (g.D.Terms.contents c.args.derives.now) c.args.argument) c.args.enough c.pi_of.ensures.leaves.place
    (c.pi_of.ensures.leaves.keeps.trees.same c.args.argument c.requires.argument_in) c.requires.argument.own

pub returns : goal.returns
returns g c =
    let w = (g.D.Looks.sight (g.D.Terms.rest c.args.derives.now)).basis.place in
    let u = (g.D.Looks.sight (g.D.Terms.rest c.pi_of.new.derives)).basis.place in
    let c₀ = g.D.Terms.contents c.args.derives.now in
    let c₁ = g.D.Terms.contents c.pi_of.new.derives in
    let c₂ = g.D.Terms.contents c.type_of.new.derives in
    let c₃ = g.D.Terms.contents c.open_with.new.terms in
    let l₃ = leaves_made g.D.Terms.contents g.D.Terms.rest g.D.Looks.sight c.type_of.new.derives c.open_with.new.terms c.open_with.ensures.keeps c.open_with.ensures.rest in
    record {
      leaves = leaves_then g.D.Terms.contents g.D.Terms.rest g.D.Looks.sight c.args.derives.now c.pi_of.new.derives c.open_with.new.terms c.pi_of.ensures.leaves
          (leaves_then g.D.Terms.contents g.D.Terms.rest g.D.Looks.sight c.pi_of.new.derives c.type_of.new.derives c.open_with.new.terms c.type_of.ensures.leaves l₃);
      spine = λ e rest h. spine_more w u c.requires.stated c₀ c₁ c₂ c₃ e c.args.enough c.args.at c.args.argument rest c.args.asked.now c.note_argument.new.asked c.in_ok-function.function c.in_ok-own.own c.in_ok-next.next
          c.pi_of.ensures.leaves.keeps c.type_of.ensures.leaves.keeps c.open_with.ensures.keeps c.pi_of.ensures.leaves.place c.in_ok-function.ensures.function c.in_ok-own.ensures.told c.in_ok-own.ensures.known c.in_ok-next.ensures.ok
          c.in_ok-note_argument.ensures h;
    }
