use Rattle.std.proofs.Common.{refl, ap, sym, subst}
use Rattle.std.specs.Prelude.{IfOk}
use Rattle.lk_rulebook.specs.WellStated.{WellStated}
use Rattle.lk_env.specs.Units.{declaration_at}
use Rattle.lk_derive.specs.Units.{IsUnitSection}
use Rattle.leancheck.proofs.UnitSections.{declaration_stays, yes_there}
use Rattle.leancheck.proofs.derived.derived_section.Goals as goal

pub invariant_of-deriver : goal.invariant_of-deriver
invariant_of-deriver g c =
    subst (λ r. WellStated (g.D.Looks.sight r).basis.place) (sym c.sides_of_laws.ensures.rest) c.deriver.invariant

pub invariant_of-deriver-2 : goal.invariant_of-deriver-2
invariant_of-deriver-2 g c =
    subst (λ r. WellStated (g.D.Looks.sight r).basis.place) (sym c.sides_of_laws.ensures.rest) c.deriver.invariant

pub section_of_unit-requires-clause-yes : goal.section_of_unit-requires-clause-yes
section_of_unit-requires-clause-yes g c =
    let inside = c.deriver.inside in
    let k = c.args.declaration.now in
    let known = rw (← c.deriver.view_is) at c.requires.declaration_in in
    let yes = rw (← c.deriver.view_is) at c.requires.yes in
    yes_there (g.D.Terms.contents inside.derives) (g.D.Terms.contents c.sides_of_laws.new.terms) c.sides_of_laws.ensures.keeps k known
    (g.D.Looks.sight (g.D.Terms.rest inside.derives)).basis.place (g.D.Looks.sight (g.D.Terms.rest c.sides_of_laws.new.terms)).basis.place
    inside.enough inside.enough (ap (λ r. (g.D.Looks.sight r).basis.place) c.sides_of_laws.ensures.rest) refl yes

pub returns-clause-section : goal.returns-clause-section
returns-clause-section g c =
    let inside = c.deriver.inside in
    let k = c.args.declaration.now in
    let known = rw (← c.deriver.view_is) at c.requires.declaration_in in
    let same = declaration_stays (g.D.Terms.contents inside.derives) (g.D.Terms.contents c.sides_of_laws.new.terms) c.sides_of_laws.ensures.keeps k known in
    rw (← c.deriver.view_is)
    (subst (λ r. IfOk c.section_of_unit.result (IsUnitSection (g.D.Looks.sight r).basis.place (g.D.Terms.contents c.section_of_unit.new.rows.derives) c.args.unit
    (declaration_at (g.D.Terms.contents inside.derives) k))) c.sides_of_laws.ensures.rest
    (subst (λ e. IfOk c.section_of_unit.result (IsUnitSection (g.D.Looks.sight (g.D.Terms.rest c.sides_of_laws.new.terms)).basis.place
    (g.D.Terms.contents c.section_of_unit.new.rows.derives) c.args.unit e)) same c.section_of_unit.ensures.section))
