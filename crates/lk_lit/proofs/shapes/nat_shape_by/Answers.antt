use Rattle.std.proofs.Common.{◌≡◌, Err, ◌&&◌, ap, sym, refl, ◌∙◌}
use Rattle.lk_tree.specs.declared.rule.Rule.TheVariants.{BuiltinShape}
use Rattle.lk_questions.specs.Program.{done, refuse, ◌>>=◌}
use Rattle.lk_questions.specs.Settled.{settle}
use Rattle.lk_questions.specs.Steps.{given}
use Rattle.lk_questions.specs.Shapes.{is_sort_one}
use Rattle.lk_store.specs.Store.{contents_of}
use Rattle.lk_env.specs.Lent.{type_in}
use Rattle.lk_ask.proofs.Entries.{entry_type}
use Rattle.lk_lit.proofs.Settling.{settles_now, same_program, settles_on, settles_not}
use Rattle.lk_lit.proofs.ShapeForms.{nat_end, nat_counted, nat_miscounted}
use Rattle.lk_lit.proofs.shapes.nat_shape_by.Goals.{then-one, else-one}
use Rattle.lk_lit.proofs.shapes.nat_shape_by.Goals as goal

pub returns-then-not-has_nat_counts : goal.returns-then-not-has_nat_counts
returns-then-not-has_nat_counts g c e is =
    let none = sym (c.has_nat_counts.ensures e is) ∙ c.if-not-has_nat_counts.true in
    same_program {after = λ _. refuse BuiltinShape} (nat_miscounted e e.kind none) (settles_now c.args.looks.now (Err BuiltinShape) refl)

pub returns-after-one : goal.returns-after-one
returns-after-one g c e is =
    let l = (g.L.Looks.sight (g.L.Terms.rest c.args.looks.now)).basis.library in
    let o = type_in e.kind in
    let ty = entry_type (contents_of l.tables) l.units c.args.entry e is
    ∙ sym (c.requires.over.trees.same c.args.entry.stated c.requires.known.stated_in) in
    let counted = sym (c.has_nat_counts.ensures e is) ∙ c.if-not-has_nat_counts.false in
    let both : c.if-one.fits ≡ (c.in-Ok.one && c.has_nat_ctors-has_ctors.result) =
    elim c.if-one.branch [
      | then-one w ↦ w.fits-is ∙ ap (λ b. b && c.has_nat_ctors-has_ctors.result) (sym w.if-one.true)
      | else-one w ↦ w.fits-is ∙ w.if-one.false ∙ ap (λ b. b && c.has_nat_ctors-has_ctors.result) (sym w.if-one.false)
    ] in
    let all = ap (λ b. c.in-Ok.one && b) (sym (c.has_nat_ctors-has_ctors.ensures e is)) ∙ sym both in
    let seen = g.L.Looks.sight (g.L.Terms.rest c.is_sort_one.new.looks) in
    settles_on (λ _. nat_end o c.in-Ok.one) (nat_end o) (rw c.in-Ok.is at c.in_ok-one.ensures)
    (nat_counted e e.kind counted ∙ ap (λ t. is_sort_one t >>= nat_end o) ty) refl
    (settles_now c.is_sort_one.new.looks c.required.result
    (ap (λ b. settle seen.basis.place seen.last (given b BuiltinShape (done tt))) all
    ∙ c.required.ensures seen.basis.place seen.last))

pub returns-in-Err : goal.returns-in-Err
returns-in-Err g c e is =
    let l = (g.L.Looks.sight (g.L.Terms.rest c.args.looks.now)).basis.library in
    let o = type_in e.kind in
    let ty = entry_type (contents_of l.tables) l.units c.args.entry e is
    ∙ sym (c.requires.over.trees.same c.args.entry.stated c.requires.known.stated_in) in
    let counted = sym (c.has_nat_counts.ensures e is) ∙ c.if-not-has_nat_counts.false in
    settles_not (nat_end o) (rw c.in-Err.is at c.in_ok-one.ensures)
    (nat_counted e e.kind counted ∙ ap (λ t. is_sort_one t >>= nat_end o) ty)
