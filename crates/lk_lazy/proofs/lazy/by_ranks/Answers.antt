use Rattle.std.proofs.Common.{◌≡◌, true, false, sym, ap, ◌∙◌}
use Rattle.lk_questions.specs.Erased.{truth, erased}
use Rattle.lk_questions.specs.Unfolding.{is_less}
use Rattle.lk_store.specs.Contents.{tree_at}
use Rattle.lk_ask.proofs.Steps.{same_steps}
use Rattle.lk_lazy.proofs.Ranks.{second_ranked, first_ranked, one_ranked}
use Rattle.lk_lazy.proofs.lazy.by_ranks.Goals as goal

pub returns-then-is_less : goal.returns-then-is_less
returns-then-is_less g c p q i j =
    let t = tree_at (g.L.Terms.contents c.args.looks.now) in
    let less : is_less p.rank q.rank ≡ true =
    rw (← i.is.rank_is, ← j.is.rank_is) (sym c.is_less.ensures ∙ c.if-is_less.true) in
    same_steps (ap (erased _ truth _) (sym (second_ranked (t c.args.a) (t c.args.b) p q less)))
    (c.unfold_right.ensures q j.is)

pub returns-then-is_less-2 : goal.returns-then-is_less-2
returns-then-is_less-2 g c p q i j =
    let t = tree_at (g.L.Terms.contents c.args.looks.now) in
    let no_less : is_less p.rank q.rank ≡ false =
    rw (← i.is.rank_is, ← j.is.rank_is) (sym c.is_less.ensures ∙ c.if-is_less.false) in
    let less : is_less q.rank p.rank ≡ true =
    rw (← i.is.rank_is, ← j.is.rank_is)
    (sym c.is_less-else-is_less.ensures ∙ c.if-is_less-2.true) in
    same_steps (ap (erased _ truth _)
    (sym (first_ranked (t c.args.a) (t c.args.b) p q no_less less)))
    (c.unfold_left.ensures p i.is)

pub returns-else-is_less-2 : goal.returns-else-is_less-2
returns-else-is_less-2 g c p q i j =
    let t = tree_at (g.L.Terms.contents c.args.looks.now) in
    let no_less : is_less p.rank q.rank ≡ false =
    rw (← i.is.rank_is, ← j.is.rank_is) (sym c.is_less.ensures ∙ c.if-is_less.false) in
    let not_less : is_less q.rank p.rank ≡ false =
    rw (← i.is.rank_is, ← j.is.rank_is)
    (sym c.is_less-else-is_less.ensures ∙ c.if-is_less-2.false) in
    same_steps (ap (erased _ truth _)
    (sym (one_ranked (t c.args.a) (t c.args.b) p q no_less not_less)))
    (c.of_one_rank.ensures p q i j)
