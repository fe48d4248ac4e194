use Rattle.std.proofs.Common.{sym}
use Rattle.lk_tree.specs.Tree.{sort}
use Rattle.lk_store.specs.Contents.{tree_at}
use Rattle.lk_derive.proofs.PartsDue.{sort_typed, form_moved, sort_reduced, sort_added}
use Rattle.lk_derive.proofs.parts.add_sort.Goals as goal

pub add_type-requires : goal.add_type-requires
add_type-requires g c = sort_typed g.R.Rows.contents g.R.Rows.place g.R.Rows.most c.args.rows.now c.args.parts.now c.args.ty c.requires

pub add_form-requires : goal.add_form-requires
add_form-requires g c =
    let h = c.requires.sorted in
    sort_reduced g.R.Rows.contents g.R.Rows.place g.R.Rows.most c.args.rows.now c.add_type.new.rows c.add_type.ensures.stays c.args.parts.now c.add_type.new.parts c.in_ok-between.between c.in_ok-between.ensures.known c.args.ty c.requires
    (c.in_ok-between.ensures.adds h.between h.typed.cost h.typed.answered)

pub returns-clause-adds : goal.returns-clause-adds
returns-clause-adds g c = λ l h.
    let rows = c.args.rows.now in
    let mid = c.add_type.new.rows in
    let first = c.in_ok-between.ensures.adds h.between h.typed.cost h.typed.answered in
    let moved = form_moved g.R.Rows.contents g.R.Rows.place g.R.Rows.most rows mid c.add_type.ensures.stays h.between (tree_at (g.R.Rows.contents mid) c.in_ok-between.between) (sort l) h.reduced.cost (sym first.is) h.reduced.answered in
    sort_added g.R.Rows.contents g.R.Rows.place g.R.Rows.most rows mid c.add_type.ensures.stays c.args.parts.now c.add_type.new.parts c.in_ok-between.between c.in_ok-between.ensures.known
    (g.R.Rows.contents c.add_form.new.rows) c.add_form.new.parts (tree_at (g.R.Rows.contents rows) c.args.ty) h.between (sort l) c.in_ok-add_form.field-0 first (c.in_ok-add_form.ensures.adds (sort l) h.reduced.cost moved)
