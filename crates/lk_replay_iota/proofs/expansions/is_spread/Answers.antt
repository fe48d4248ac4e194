use Rattle.std.proofs.Common.{map, ap, sym, ◌∙◌}
use Rattle.lk_tree.specs.Spine.{apply, args}
use Rattle.lk_tree.proofs.Spines.{apply_append}
use Rattle.lk_questions.specs.Steps.{is_same_tree}
use Rattle.lk_store.specs.Contents.{tree_at}
use Rattle.lk_replay_iota.proofs.Applying.{front_tests, front_fails}
use Rattle.lk_replay_iota.proofs.expansions.is_spread.Goals as goal

pub returns-in-Some : goal.returns-in-Some
returns-in-Some g c =
    let t = tree_at (g.T.Terms.contents c.args.terms.now) in
    let xs = args (t c.args.ty) in
    let ys = map t c.args.fields.now in
    let whole = apply (t c.args.front) xs in
    c.is_applied.ensures
    ∙ front_tests (t c.args.n) (t c.in-Some.rest) whole ys c.in-Some.ensures.1
    ∙ ap (is_same_tree (t c.args.n)) (sym (apply_append (t c.args.front) xs ys))

pub returns-in-None : goal.returns-in-None
returns-in-None g c =
    let t = tree_at (g.T.Terms.contents c.args.terms.now) in
    let xs = args (t c.args.ty) in
    let ys = map t c.args.fields.now in
    front_fails (t c.args.n) (apply (t c.args.front) xs) ys c.in-None.ensures
    ∙ ap (is_same_tree (t c.args.n)) (sym (apply_append (t c.args.front) xs ys))
