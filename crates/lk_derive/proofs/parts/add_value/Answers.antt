use Rattle.std.proofs.lemmas.Result.{on_ok_weaker}
use Rattle.lk_store.specs.Contents.{tree_at}
use Rattle.lk_derive.proofs.PartsDue.{value_typed, value_equal, value_added}
use Rattle.lk_derive.proofs.parts.add_value.Goals as goal

pub add_type-requires : goal.add_type-requires
add_type-requires g c = value_typed g.R.Rows.contents g.R.Rows.place g.R.Rows.most c.args.rows.now c.args.parts.now c.args.value c.args.ty c.requires

pub add_equal-requires : goal.add_equal-requires
add_equal-requires g c =
    let h = c.requires.typed in
    value_equal g.R.Rows.contents g.R.Rows.place g.R.Rows.most c.args.rows.now c.add_type.new.rows c.add_type.ensures.stays c.args.parts.now c.add_type.new.parts c.in_ok-inferred.inferred c.in_ok-inferred.ensures.known c.args.value c.args.ty c.requires
    (c.in_ok-inferred.ensures.adds h.inferred h.typed.cost h.typed.answered)

pub returns-clause-adds : goal.returns-clause-adds
returns-clause-adds g c = λ h.
    let rows = c.args.rows.now in
    let first = c.in_ok-inferred.ensures.adds h.inferred h.typed.cost h.typed.answered in
    on_ok_weaker c.add_equal.result
    (λ second. value_added g.R.Rows.contents g.R.Rows.place g.R.Rows.most rows c.add_type.new.rows c.add_type.ensures.stays c.args.parts.now c.add_type.new.parts c.in_ok-inferred.inferred c.in_ok-inferred.ensures.known
    (g.R.Rows.contents c.add_equal.new.rows) c.add_equal.new.parts (tree_at (g.R.Rows.contents rows) c.args.value) h.inferred c.args.ty c.requires.type_in first second)
    c.add_equal.ensures.adds
