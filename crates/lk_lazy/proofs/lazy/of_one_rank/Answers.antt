use Rattle.std.proofs.Common.{rules, ◌≡◌, true, false, sym, ap, ◌∙◌}
use Rattle.lk_questions.specs.Program.{done}
use Rattle.lk_questions.specs.Erased.{truth, erased}
use Rattle.lk_questions.specs.Levels.{complete_test, levels_equal}
use Rattle.lk_store.specs.Contents.{name_at, list_at, tree_at}
use Rattle.lk_ask.proofs.Steps.{same_steps}
use Rattle.lk_lazy.proofs.Ranks.{heads_differ, levels_differ, heads_agree}
use Rattle.lk_lazy.proofs.lazy.of_one_rank.Goals as goal

pub returns-then-not-same_name : goal.returns-then-not-same_name
returns-then-not-same_name g c p q i j =
    let d = g.L.Terms.contents c.args.looks.now in
    let other : name_at d c.args.u.name ≡ name_at d c.args.v.name → ⊥ = search rules in
    same_steps (ap (erased _ truth _)
    (sym (heads_differ (tree_at d c.args.a) (tree_at d c.args.b) p q
    (λ n. other (i.is.name_is ∙ n ∙ sym j.is.name_is))))) (c.unfold_both.ensures p q i.is j.is)

pub returns-in-Some-true : goal.returns-in-Some-true
returns-in-Some-true g c p q i j =
    let d = g.L.Terms.contents c.args.looks.now in
    let ls = list_at d in
    let one : name_at d c.args.u.name ≡ name_at d c.args.v.name = search rules in
    let equal : levels_equal complete_test (ls c.args.u.levels) (ls c.args.v.levels)
    ≡ done true = search rules in
    same_steps (ap (erased _ truth _)
    (sym (heads_agree (tree_at d c.args.a) (tree_at d c.args.b) p q
    (sym i.is.name_is ∙ one ∙ j.is.name_is) (rw (i.is.levels_are, j.is.levels_are) at equal))))
    (c.by_pairs.ensures p q i j)

pub returns-in-Some-false : goal.returns-in-Some-false
returns-in-Some-false g c p q i j =
    let d = g.L.Terms.contents c.args.looks.now in
    let ls = list_at d in
    let one : name_at d c.args.u.name ≡ name_at d c.args.v.name = search rules in
    let equal : levels_equal complete_test (ls c.args.u.levels) (ls c.args.v.levels)
    ≡ done false = search rules in
    same_steps (ap (erased _ truth _)
    (sym (levels_differ (tree_at d c.args.a) (tree_at d c.args.b) p q
    (sym i.is.name_is ∙ one ∙ j.is.name_is) (rw (i.is.levels_are, j.is.levels_are) at equal))))
    (c.unfold_both-in-Some-false.ensures p q i.is j.is)
