use Rattle.std.proofs.Common.{[], ◌∷◌, ◌++◌, ap, sym, subst, ◌∙◌}
use Rattle.std.specs.Prelude.{OnOk}
use Rattle.lk_rulebook.specs.Units.{place_of}
use Rattle.lk_store.specs.Contents.{Extends}
use Rattle.lk_store.specs.Store.{contents_of}
use Rattle.lk_env.specs.Units.{declaration_at, library_of}
use Rattle.lk_derive.specs.Units.{IsUnitSection}
use Rattle.lk_sections.specs.Stored.{unit_section_at, HasWritten}
use Rattle.leancheck.proofs.UnitSections.{declaration_on, declaration_stays, yes_there, one_more_holds}
use Rattle.leancheck.proofs.derived.trace_yes.Goals as goal

pub derived_section-requires-clause-declaration_in : goal.derived_section-requires-clause-declaration_in
derived_section-requires-clause-declaration_in g c =
    let base = contents_of c.args.library.now.tables in
    let now = g.D.Terms.contents c.turn_to.new.deriver.derives in
    let over = subst (λ l. Extends (contents_of l.tables) (g.D.Terms.contents c.args.deriver.now.derives)) c.requires.library c.turn_to.ensures.over in
    declaration_on base now (subst (Extends base) (sym c.turn_to.ensures.contents) over) c.args.declaration.now c.requires.declaration_in

pub derived_section-requires-clause-yes : goal.derived_section-requires-clause-yes
derived_section-requires-clause-yes g c =
    let l = c.args.library.now in
    let base = contents_of l.tables in
    let k = c.args.declaration.now in
    let checked = c.args.checked in
    let now = g.D.Terms.contents c.turn_to.new.deriver.derives in
    let over = subst (λ m. Extends (contents_of m.tables) (g.D.Terms.contents c.args.deriver.now.derives)) c.requires.library c.turn_to.ensures.over in
    let place = c.turn_to.ensures.place ∙ ap (λ m. place_of (library_of m) checked.unit []) c.requires.library in
    yes_there base now (subst (Extends base) (sym c.turn_to.ensures.contents) over) k c.requires.declaration_in
    (place_of (library_of l) checked.unit []) (g.D.Looks.sight (g.D.Terms.rest c.turn_to.new.deriver.derives)).basis.place
    checked.budget c.turn_to.new.deriver.enough place c.turn_to.ensures.enough
    (c.yes_has_parts.ensures (library_of l) checked.unit checked.budget (declaration_at base k) c.requires.at c.requires.yes)

pub returns-clause-written : goal.returns-clause-written
returns-clause-written g c = λ ks ss was.
    let l = c.args.library.now in
    let us = library_of l in
    let base = contents_of l.tables in
    let k = c.args.declaration.now in
    let n = c.args.checked.unit in
    let now = g.D.Terms.contents c.turn_to.new.deriver.derives in
    let later = g.D.Terms.contents c.derived_section.new.deriver.derives in
    let over = subst (λ m. Extends (contents_of m.tables) (g.D.Terms.contents c.args.deriver.now.derives)) c.requires.library c.turn_to.ensures.over in
    let same = declaration_stays base now (subst (Extends base) (sym c.turn_to.ensures.contents) over) k c.requires.declaration_in in
    let place = c.turn_to.ensures.place ∙ ap (λ m. place_of (library_of m) n []) c.requires.library in
    let s = c.in_ok-section.section in
    let at_place = subst (λ w. IsUnitSection w later n (declaration_at now k) s) place c.in_ok-section.ensures.section in
    let is = subst (λ d. IsUnitSection (place_of us n []) later n d s) same at_place in
    let view = ap (λ t. g.D.Terms.contents t.derives) c.deriver.view_is in
    let keeps = subst (λ m. Extends m later) c.turn_to.ensures.contents c.derived_section.ensures.keeps in
    one_more_holds us n c.args.checked.budget (declaration_at base k) later ks ss s c.write_derived.new.trace c.write_derived.result
    (λ e of. c.section_with_parts_holds.ensures us n c.args.checked.budget (declaration_at base k) e n s c.requires.at c.requires.yes of)
    is (subst (λ e. OnOk c.write_derived.result (HasWritten e ks (ss ++ unit_section_at e s ∷ []) c.write_derived.new.trace)) view
    (c.write_derived.ensures (g.D.Terms.contents c.args.deriver.now.derives) ks ss (subst (Extends (g.D.Terms.contents c.args.deriver.now.derives)) (sym view) keeps) was))
