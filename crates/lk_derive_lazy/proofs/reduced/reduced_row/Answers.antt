use Rattle.lk_store.specs.Contents.{Contents, tree_at}
use Rattle.lk_derive_lazy.proofs.Stating.{reduced_part}
use Rattle.lk_derive_lazy.proofs.reduced.reduced_row.Goals as goal

pub returns : goal.returns
returns g c = λ w n two left right h.
    let d : Contents = g.L.Terms.contents c.args.looks.now in
    reduced_part w d c.empty_row-row.result c.ask_same.new.row c.add_unfolding.new.row c.add_unfolding-2.new.row c.add_reduced.new.row
    (tree_at d c.args.a) (tree_at d c.args.b) (tree_at d c.args.x) (tree_at d c.args.y) n c.empty_row-row.ensures
    (c.in_ok-ask_same.ensures w n (left.fine, right.fine) h) (c.in_ok-add_unfolding.ensures w left) (c.in_ok-add_unfolding-2.ensures w right) (c.in_ok-add_reduced.ensures w two)
