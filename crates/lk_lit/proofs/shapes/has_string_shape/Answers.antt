use Rattle.std.proofs.Common.{Ok, false, ap, sym, refl, ◌∙◌}
use Rattle.lk_questions.specs.Program.{done}
use Rattle.lk_questions.specs.Shapes.{is_sort_one}
use Rattle.lk_store.specs.Store.{contents_of}
use Rattle.lk_ask.proofs.Entries.{entry_type}
use Rattle.lk_lit.proofs.Settling.{settles_now, same_program}
use Rattle.lk_lit.proofs.ShapeForms.{string_alone, string_not_alone}
use Rattle.lk_lit.proofs.shapes.has_string_shape.Goals as goal

pub returns-then-is_alone-clause-settles : goal.returns-then-is_alone-clause-settles
returns-then-is_alone-clause-settles g c e is =
    let l = (g.L.Looks.sight (g.L.Terms.rest c.args.looks.now)).basis.library in
    let ty = entry_type (contents_of l.tables) l.units c.args.entry e is
    ∙ sym (c.requires.over.trees.same c.args.entry.stated c.requires.known.stated_in) in
    let alone = sym (c.is_alone.ensures e is) ∙ c.if-is_alone.true in
    same_program (string_alone e e.kind alone ∙ ap is_sort_one ty) c.is_sort_one.ensures

pub returns-else-is_alone-clause-settles : goal.returns-else-is_alone-clause-settles
returns-else-is_alone-clause-settles g c e is =
    let alone = sym (c.is_alone.ensures e is) ∙ c.if-is_alone.false in
    same_program {after = λ _. done false} (string_not_alone e e.kind alone) (settles_now c.args.looks.now (Ok false) refl)
