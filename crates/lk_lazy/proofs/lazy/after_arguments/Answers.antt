use Rattle.std.proofs.Common.{sym, ap}
use Rattle.lk_questions.specs.Erased.{truth, erased}
use Rattle.lk_store.specs.Contents.{tree_at}
use Rattle.lk_ask.proofs.Steps.{same_steps}
use Rattle.lk_lazy.proofs.Ranks.{some_of, again_is}
use Rattle.lk_lazy.proofs.lazy.after_arguments.Goals as goal

pub returns-in-Some-unfolding_again : goal.returns-in-Some-unfolding_again
returns-in-Some-unfolding_again g c =
    let d = g.L.Terms.contents c.args.looks.now in
    let basis = (g.L.Looks.sight (g.L.Terms.rest c.args.looks.now)).basis in
    let left = rw c.in-Some.is at c.unfolding_again.ensures in
    let right = rw c.in-Some-unfolding_again.is at c.unfolding_again-in-Some.ensures in
    let u = some_of d basis.library c.in-Some.u _ left in
    let v = some_of d basis.library c.in-Some-unfolding_again.v _ right in
    same_steps (ap (erased _ truth _)
    (sym (again_is (tree_at d c.args.a) (tree_at d c.args.b) u.0 v.0 basis.place u.1 v.1)))
    (c.unfold_both.ensures u.0 v.0 u.2 v.2)
