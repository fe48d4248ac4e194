use Rattle.std.proofs.Common.{sym, ap}
use Rattle.lk_questions.specs.Erased.{truth, erased}
use Rattle.lk_store.specs.Contents.{tree_at}
use Rattle.lk_ask.proofs.Steps.{same_steps}
use Rattle.lk_lazy.proofs.Ranks.{uneven_is}
use Rattle.lk_lazy.proofs.lazy.by_pairs.Goals as goal

pub returns-in-None : goal.returns-in-None
returns-in-None g c p q i j =
    let t = tree_at (g.L.Terms.contents c.args.looks.now) in
    let uneven = rw c.in-None.is at c.in_ok-found.ensures in
    same_steps (ap (erased _ truth _) (sym (uneven_is (t c.args.a) (t c.args.b) p q uneven)))
    (c.unfold_both.ensures p q i.is j.is)
