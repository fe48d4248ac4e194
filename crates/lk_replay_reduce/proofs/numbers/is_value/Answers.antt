use Rattle.std.proofs.Common.{rules, ◌≡◌, Some, None, option_map, sym, ap, ◌∙◌}
use Rattle.lk_tree.specs.Operations.{number, truth}
use Rattle.lk_op.specs.Ops.{value_at, fitting}
use Rattle.lk_store.specs.Contents.{tree_at}
use Rattle.lk_replay_reduce.proofs.NumberForms.{value_number, value_truth, value_none}
use Rattle.lk_replay_reduce.proofs.numbers.is_value.Goals as goal

pub returns-in-Number : goal.returns-in-Number
returns-in-Number g c o h =
    let d = g.L.Terms.contents c.args.looks.now in
    let w = (g.L.Looks.sight (g.L.Terms.rest c.args.looks.now)).basis.place in
    let one : Some (number c.in-Number.number) ≡ fitting o = ap (option_map value_at) (sym (c.in-Some.is ∙ ap Some c.in-Number.is)) ∙ h in
    rw (value_number w c.args.left.now (tree_at d c.args.b) c.in-Number.number o one) c.is_number.ensures

pub returns-in-Truth : goal.returns-in-Truth
returns-in-Truth g c o h =
    let d = g.L.Terms.contents c.args.looks.now in
    let w = (g.L.Looks.sight (g.L.Terms.rest c.args.looks.now)).basis.place in
    let one : Some (truth c.in-Truth.holds) ≡ fitting o = ap (option_map value_at) (sym (c.in-Some.is ∙ ap Some c.in-Truth.is)) ∙ h in
    rw (value_truth w c.args.left.now (tree_at d c.args.b) c.in-Truth.holds o one) c.is_truth.ensures

pub returns-in-None : goal.returns-in-None
returns-in-None g c o h =
    let d = g.L.Terms.contents c.args.looks.now in
    let w = (g.L.Looks.sight (g.L.Terms.rest c.args.looks.now)).basis.place in
    let none : None ≡ fitting o = ap (option_map value_at) (sym c.in-None.is) ∙ h in
    rw (value_none w c.args.left.now (tree_at d c.args.b) o none)
    (record { keeps = search rules; stays = search rules; ok = search rules })
